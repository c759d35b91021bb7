-- How the chain of a word's Fox vector ends.
use Rattle.std.specs.Prelude.{List}
use Rattle.free_words.specs.declared.letter.Letter.{Letter}
use Rattle.module_vec.specs.declared.places.Term.{Term}
use Rattle.hom_check.specs.declared.ending.Ending.{Ending}
use Rattle.hom_check.specs.declared.ending.Ending.TheVariants.{Zero, Rest, Stopped}
use Rattle.hom_check.specs.Shown.{IsShown, LeavesRest, StopsAt}

abbrev pub HasEnding : List (List Term) → List Letter → Ending → Type 0
HasEnding b w Zero = IsShown b w
HasEnding b w (Rest rest) = LeavesRest b rest w
HasEnding b w (Stopped stop) = StopsAt b stop w
