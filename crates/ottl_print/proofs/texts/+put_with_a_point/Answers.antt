use Rattle.std.proofs.Common.{rules, ◌≡◌, ◌∷◌, IsAscii, subst}
use Rattle.ottl_print.proofs.Escapes.{ascii_first, ascii_rest}
use Rattle.ottl_print.proofs.texts.+put_with_a_point.Goals as goal

pub put_ascii_byte-requires : goal.put_ascii_byte-requires
put_ascii_byte-requires t c =
    let whole : c.args.number.now ≡ c.in-Some.first.now ∷ c.in-Some.rest.now = search rules in
    ascii_first c.in-Some.first.now c.in-Some.rest.now (subst IsAscii whole c.requires)

pub put_with_a_point-requires : goal.put_with_a_point-requires
put_with_a_point-requires t c =
    let whole : c.args.number.now ≡ c.in-Some.first.now ∷ c.in-Some.rest.now = search rules in
    (search rules, ascii_rest c.in-Some.first.now c.in-Some.rest.now (subst IsAscii whole c.requires))
