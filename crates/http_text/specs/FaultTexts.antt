-- What a fault is told as.
use Rattle.std.specs.Prelude.{ℕ, List, codes}
use Rattle.http_text.specs.declared.request.RequestRefusal.{RequestRefusal}
use Rattle.http_text.specs.declared.request.RequestRefusal.TheVariants.{HeadTooLarge, BadRequest, NotFound, MethodNotAllowed, Forbidden, UnsupportedMediaType, NeitherMediaType, GzipIsOff, UnsupportedCoding, NeitherCoding, BodyTooLarge, NotGzip}

abbrev pub fault_text : RequestRefusal → List ℕ
fault_text HeadTooLarge = codes "the head is too large"
fault_text BadRequest = codes "the head is no request of HTTP/1.1"
fault_text NotFound = codes "the target is unknown"
fault_text MethodNotAllowed = codes "the method is not POST"
fault_text Forbidden = codes "the request may be of another site"
fault_text UnsupportedMediaType = codes "the content is no JSON"
fault_text NeitherMediaType = codes "the content is neither JSON nor protobuf"
fault_text GzipIsOff = codes "the content is gzip, which is off"
fault_text UnsupportedCoding = codes "the content has a coding that is not taken"
fault_text NeitherCoding = codes "the content has a coding that is not taken"
fault_text BodyTooLarge = codes "the body is too large"
fault_text NotGzip = codes "the body is no gzip stream"
