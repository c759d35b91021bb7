-- Words that are accepted, and words that are not: a check of the definitions.
use Rattle.std.proofs.Common.{◌≡◌, refl, codes, [], ◌∷◌, Some, None}
use Rattle.clap.proofs.OnLiterals.{clap_on_literals}
use Rattle.word_text.specs.Scan.{digits_at, after_digits, is_digit}
use Rattle.command_floor.specs.declared.commands.Command.TheVariants.{Solo, Steps}
use Rattle.command_floor.specs.Commands.{AskedWords, asked}

pub equals : asked (codes "solo" ∷ codes "--entries=3072" ∷ codes "p" ∷ codes "s" ∷ [])
    ≡ Some (record {
      command = Solo;
      given = record {
        settings = record { entries = Some 3072; budget = None; order = None; workers = None; report = None };
        words = codes "p" ∷ codes "s" ∷ [];
      };
    })
unfolding clap_on_literals digits_at after_digits is_digit
equals = refl

pub between : asked (codes "solo" ∷ codes "p" ∷ codes "--entries" ∷ codes "000003072" ∷ codes "s" ∷ [])
    ≡ Some (record {
      command = Solo;
      given = record {
        settings = record { entries = Some 3072; budget = None; order = None; workers = None; report = None };
        words = codes "p" ∷ codes "s" ∷ [];
      };
    })
unfolding clap_on_literals digits_at after_digits is_digit
between = refl

pub after_dashes : asked (codes "solo" ∷ codes "--" ∷ codes "p" ∷ codes "-s" ∷ [])
    ≡ Some (record {
      command = Solo;
      given = record { settings = record { entries = None; budget = None; order = None; workers = None; report = None }; words = codes "p" ∷ codes "-s" ∷ [] };
    })
unfolding clap_on_literals digits_at after_digits is_digit
after_dashes = refl

pub twice : asked (codes "solo" ∷ codes "--budget" ∷ codes "2" ∷ codes "--budget" ∷ codes "2" ∷ codes "p" ∷ codes "s" ∷ [])
    ≡ None
unfolding clap_on_literals digits_at after_digits is_digit
twice = refl

pub lone_dash : asked (codes "steps" ∷ codes "-" ∷ codes "" ∷ codes "d" ∷ [])
    ≡ Some (record {
      command = Steps;
      given = record {
        settings = record { entries = None; budget = None; order = None; workers = None; report = None };
        words = codes "-" ∷ codes "" ∷ codes "d" ∷ [];
      };
    })
unfolding clap_on_literals digits_at after_digits is_digit
lone_dash = refl

pub by_order : asked (codes "solo" ∷ codes "p" ∷ codes "--order=02" ∷ codes "s" ∷ [])
    ≡ Some (record {
      command = Solo;
      given = record {
        settings = record { entries = None; budget = None; order = Some 2; workers = None; report = None };
        words = codes "p" ∷ codes "s" ∷ [];
      };
    })
unfolding clap_on_literals digits_at after_digits is_digit
by_order = refl
