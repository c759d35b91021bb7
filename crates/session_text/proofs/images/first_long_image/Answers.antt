use Rattle.std.proofs.Common.{sym}
use Rattle.session_text.proofs.ImageFits.{none_long}
use Rattle.session_text.proofs.images.first_long_image.Goals as goal

pub returns-in_err-place-clause-fits : goal.returns-in_err-place-clause-fits
returns-in_err-place-clause-fits c = λ _. none_long c.args.q.now (sym c.in_err-place.ensures.place)
