use Rattle.std.proofs.Common.{◌≡◌, ◌<◌, ◌+◌, rules, ◌∙◌, ap, length, drop, Vec, arith, Global}
use Rattle.std.proofs.lemmas.Result.{err_from_is_err_and}
use Rattle.free_words.specs.declared.word.Word.{Word}
use Rattle.word_text.specs.Machine.{finding}
use Rattle.session_text.specs.Reading.{images_at}
use Rattle.session_text.proofs.ImageTurns.{begins, more, fails_first}
use Rattle.session_text.proofs.reading.images.Goals as goal

pub returns-in_err-push_image-clause-exact : goal.returns-in_err-push_image-clause-exact
returns-in_err-push_image-clause-exact c =
    let p = err_from_is_err_and c.from_residual.result c.from_residual.ensures.1 in
    rw (p.1, p.2) (fails_first (λ (v : Vec Word Global). v.items) c.new-images.result.items c.push_image.new.images.items
    (finding c.args.p.now.names) c.args.count
    (drop c.args.reader.now.at c.args.reader.now.text.now) c.args.reader.now.text.now c.args.reader.now.line c.push_image.new.reader.at
    c.push_image.new.reader.at
    c.in_err-push_image.field-0.0 c.new-images.ensures.items c.in_err-push_image.ensures.exact)

pub loop-alloc-init : goal.loop-alloc-init
loop-alloc-init c =
    let one : length c.push_image.new.images.items ≡ length c.new-images.result.items + 1 = c.in_ok-push_image.ensures.one_more in
    record {
      so_far = begins (finding c.args.p.now.names) c.args.count (drop c.args.reader.now.at c.args.reader.now.text.now)
          (drop c.push_image.new.reader.at c.args.reader.now.text.now)
          c.new-images.result.items c.push_image.new.images.items c.new-images.ensures.items one c.in_ok-push_image.ensures.exact;
      written = c.in_ok-push_image.ensures.written (rw c.new-images.ensures.items tt);
      few = omega (arith, one, c.requires.some, ap length c.new-images.ensures.items);
      inside = c.push_image.ensures.inside;
      text = c.push_image.ensures.text;
      line = c.push_image.ensures.line;
    }

pub loop-alloc-preserved : goal.loop-alloc-preserved
loop-alloc-preserved c =
    let lt : length c.loop-alloc.images.items < c.args.count = search rules in
    let one : length c.push_next.new.images.items ≡ length c.loop-alloc.images.items + 1 = c.in_ok-push_next.ensures.one_more in
    record {
      so_far = more (finding c.args.p.now.names) c.args.count (images_at c.args.count (finding c.args.p.now.names)
          (drop c.args.reader.now.at c.args.reader.now.text.now))
          c.loop-alloc.images.items c.push_next.new.images.items (drop c.loop-alloc.reader.at c.args.reader.now.text.now)
          (drop c.push_next.new.reader.at c.args.reader.now.text.now)
          lt one (rw (← c.loop-alloc.invariant.text) c.in_ok-push_next.ensures.exact) c.loop-alloc.invariant.so_far;
      written = c.in_ok-push_next.ensures.written c.loop-alloc.invariant.written;
      few = omega (arith, one, lt);
      inside = search rules;
      text = c.push_next.ensures.text ∙ c.loop-alloc.invariant.text;
      line = c.push_next.ensures.line ∙ c.loop-alloc.invariant.line;
    }
