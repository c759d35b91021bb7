use Rattle.std.proofs.Common.{map, string_bytes}
use Rattle.presentation.proofs.Limits.{is_presented}
use Rattle.presentation.proofs.SoundWhole.{parts_sound}
use Rattle.presentation.proofs.text.presentation.Goals as goal

pub of-requires : goal.of-requires
of-requires c =
    let names = map string_bytes c.in_ok-names.names.items in
    let relators = c.in_ok-relators.relators.items in
    is_presented c.args.text.now names relators c.in_ok-rest.rest.now
    (parts_sound c.args.text.now c.in_ok-byte.field-0.now c.in_ok-names.rest.now c.in_ok-byte-2.field-0.now c.in_ok-relators.rest.now c.in_ok-rest.rest.now
    names relators
    (rw c.skip_blanks.ensures.rest at c.in_ok-byte.ensures) c.in_ok-names.ensures.exact c.in_ok-byte-2.ensures
    (rw c.deref.ensures.value at c.in_ok-relators.ensures) c.in_ok-rest.ensures)
