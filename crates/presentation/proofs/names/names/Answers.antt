use Rattle.std.proofs.Common.{◌≡◌, ◌<◌, Ok, map, length, string_bytes, refl, arith, ap}
use Rattle.std.proofs.lemmas.List.{length-map}
use Rattle.std.proofs.lemmas.Result.{err_from_is_err_and}
use Rattle.free_words.specs.declared.TheConstants.{GENERATORS}
use Rattle.presentation.specs.Reading.{name_behind, names_at}
use Rattle.presentation.proofs.NameLists.{map-push}
use Rattle.presentation.proofs.NameTurns.{more, fails, done}
use Rattle.presentation.proofs.names.names.Goals as goal

pub loop-names-init : goal.loop-names-init
unfolding names_at
loop-names-init c = rw c.new-names.ensures.items (24, refl, refl)

pub returns-in_err-name-clause-exact : goal.returns-in_err-name-clause-exact
returns-in_err-name-clause-exact c =
    let p = err_from_is_err_and c.from_residual.result c.from_residual.ensures.1 in
    let seen = map string_bytes c.loop-names.names.items in
    rw (p.1, p.2) (fails (names_at c.args.text.now) seen c.loop-names.rest.now c.in_err-name.field-0.0 (rw c.deref.ensures.value at c.in_err-name.ensures.exact)
    c.loop-names.invariant)

pub returns-then-not-first_is-clause-exact : goal.returns-then-not-first_is-clause-exact
returns-then-not-first_is-clause-exact c =
    let seen = map string_bytes c.loop-names.names.items in
    let e : name_behind seen c.loop-names.rest.now ≡ Ok (c.in_ok-name.name.now, c.in_ok-name.after.now) =
    rw c.deref.ensures.value at c.in_ok-name.ensures.exact in
    rw (map-push string_bytes c.loop-names.names.items c.push.new.self.items c.in_ok-text_of.field-0 c.in_ok-name.name.now c.in_ok-push.ensures.items
    c.in_ok-text_of.ensures)
    (done (names_at c.args.text.now) seen c.in_ok-name.name.now c.loop-names.rest.now c.in_ok-name.after.now e (cc) c.loop-names.invariant)

pub loop-names-preserved : goal.loop-names-preserved
loop-names-preserved c =
    let seen = map string_bytes c.loop-names.names.items in
    let e : name_behind seen c.loop-names.rest.now ≡ Ok (c.in_ok-name.name.now, c.in_ok-name.after.now) =
    rw c.deref.ensures.value at c.in_ok-name.ensures.exact in
    let few : length seen < GENERATORS = omega (
      arith,
      length-map c.loop-names.names.items string_bytes,
      ap length c.deref.ensures.value,
      c.in_ok-name.ensures.room,
    ) in
    rw (
      map-push string_bytes c.loop-names.names.items c.push.new.self.items c.in_ok-text_of.field-0 c.in_ok-name.name.now c.in_ok-push.ensures.items
          c.in_ok-text_of.ensures,
      c.after_first-rest.ensures.rest,
    )
    (more (names_at c.args.text.now) seen c.in_ok-name.name.now c.loop-names.rest.now c.in_ok-name.after.now e (cc) few c.loop-names.invariant)
