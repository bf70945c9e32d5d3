use Rattle.std.proofs.Common.{sym, ap}
use Rattle.http_answer.specs.Answer.{refusal_row}
use Rattle.http_answer.proofs.texts.refusal_row.Goals as goal

pub returns-in-MethodNotAllowed : goal.returns-in-MethodNotAllowed
returns-in-MethodNotAllowed c = λ encoding. sym (ap (refusal_row encoding) c.in-MethodNotAllowed.is)

pub returns-in-UnsupportedMediaType : goal.returns-in-UnsupportedMediaType
returns-in-UnsupportedMediaType c = λ encoding. sym (ap (refusal_row encoding) c.in-UnsupportedMediaType.is)

pub returns-in-NeitherMediaType : goal.returns-in-NeitherMediaType
returns-in-NeitherMediaType c = λ encoding. sym (ap (refusal_row encoding) c.in-NeitherMediaType.is)

pub returns-in-GzipIsOff : goal.returns-in-GzipIsOff
returns-in-GzipIsOff c = λ encoding. sym (ap (refusal_row encoding) c.in-GzipIsOff.is)

pub returns-in-UnsupportedCoding : goal.returns-in-UnsupportedCoding
returns-in-UnsupportedCoding c = λ encoding. sym (ap (refusal_row encoding) c.in-UnsupportedCoding.is)

pub returns-in-NeitherCoding : goal.returns-in-NeitherCoding
returns-in-NeitherCoding c = λ encoding. sym (ap (refusal_row encoding) c.in-NeitherCoding.is)
