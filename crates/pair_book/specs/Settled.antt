-- Tasks that are closed when they come, as a test of two leads. The laws say that the test is right.
use Rattle.std.specs.Prelude.{not, ◌||◌, nat_eq, List, map}
use Rattle.module_vec.specs.declared.places.Term.{Term}
use Rattle.strong_pairs.specs.Covering.{divides_number}
use Rattle.strong_pairs.specs.Pairs.{lead_of}
use Rattle.task_table.specs.declared.rows.Settled.{Settled}
use Rattle.basis_entry.specs.Entries.{BasisEntry}

-- no pair, or a G task one of whose lead coefficients divides the other
abbrev pub settled_by : Term → Term → Settled
settled_by d e = record {
  g = not (nat_eq d.at.c e.at.c) || (divides_number d.k e.k || divides_number e.k d.k);
  s = not (nat_eq d.at.c e.at.c);
}

-- what is settled of the tasks of a new vector with each entry
abbrev pub settled_row : List BasisEntry → List Term → List Settled
settled_row es v = map (λ e. settled_by (lead_of e.vector) (lead_of v)) es
