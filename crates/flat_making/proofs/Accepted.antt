-- A check of a certificate with the sum of a proof finds no difference.
use Rattle.std.proofs.Common.{◌∙◌, List, Result, Ok, Err, arith}
use Rattle.free_words.specs.declared.letter.Letter.{Letter}
use Rattle.presentation.specs.Presented.{Presented}
use borrow.Author.Differences.{ints}
use Rattle.formal_sums.specs.FormalSum.{Same}
use Rattle.module_vec.specs.declared.steps.Step.{Step}
use Rattle.module_vec.specs.Modules.{sum_of_steps}
use Rattle.module_vec.specs.Places.{same_place}
use Rattle.fox_calculus.specs.Fox.{fox}
use Rattle.report_reading.specs.declared.entry.EntryData.{EntryData}
use Rattle.flat_cert.specs.declared.faults.FlatSumFault.{FlatSumFault}
use Rattle.flat_cert.specs.declared.faults.FlatSumFault.TheVariants.{Beyond, NotZero, NoMemory}
use Rattle.flat_cert.specs.declared.lines.Flat.{Flat}
use Rattle.flat_cert.specs.Images.{flat_image}
use Rattle.flat_cert.specs.Certificates.{certificate_sum}
use Rattle.flat_cert.specs.Checking.{Answers}
use Rattle.flat_making.specs.Checked.{IsShownBy, FindsNone}
use Rattle.flat_making.specs.Making.{vectors_of}
use Rattle.flat_making.proofs.Values.{flat_same}

pub is_accepted : (p : Presented) (es : List EntryData) (w : List Letter) (proof : List Step) (list : List Flat) (r : Result (Unit {0}) FlatSumFault)
    → IsShownBy p es w proof → Same same_place (flat_image (certificate_sum p list)) (flat_image (sum_of_steps (vectors_of es) proof))
    → Answers p w list r → FindsNone r
is_accepted p es w proof list (Ok u) shown same answers = tt
is_accepted p es w proof list (Err Beyond) shown same answers = tt
is_accepted p es w proof list (Err NoMemory) shown same answers = tt
is_accepted p es w proof list (Err (NotZero at)) shown same answers =
    answers.0.here (omega (arith, ints, same at, flat_same (sum_of_steps (vectors_of es) proof) (fox w) shown.sum at))

pub is_image : (p : Presented) (es : List EntryData) (w : List Letter) (proof : List Step) (list : List Flat) → IsShownBy p es w proof
    → Same same_place (flat_image (certificate_sum p list)) (flat_image (sum_of_steps (vectors_of es) proof))
    → Same same_place (flat_image (certificate_sum p list)) (flat_image (fox w))
is_image p es w proof list shown same x = same x ∙ flat_same (sum_of_steps (vectors_of es) proof) (fox w) shown.sum x
