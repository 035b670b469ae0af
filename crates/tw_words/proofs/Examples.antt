-- Worked words: what they say, by computation.
use Rattle.std.proofs.Common.{◌≡◌, refl, [], ◌∷◌, None, Some, codes}
use Rattle.tw_words.specs.Reading.{reads}

no_words : reads [] ≡ Some (None, [])
no_words = refl

-- options stand at any place
mixed : reads (codes "a.elf" ∷ codes "--steps" ∷ codes "5" ∷ codes "b.elf" ∷ []) ≡ Some (Some (codes "5"), codes "a.elf" ∷ codes "b.elf" ∷ [])
mixed = refl

attached : reads (codes "--steps=5" ∷ []) ≡ Some (Some (codes "5"), [])
attached = refl

-- behind `--` every word is a file
behind : reads (codes "--" ∷ codes "-x" ∷ codes "--steps" ∷ []) ≡ Some (None, codes "-x" ∷ codes "--steps" ∷ [])
behind = refl

-- a hyphen alone is a file
hyphen : reads (codes "-" ∷ []) ≡ Some (None, codes "-" ∷ [])
hyphen = refl

-- refused: `--steps` twice, without a value, before `--`, and other options
twice : reads (codes "--steps" ∷ codes "5" ∷ codes "--steps" ∷ codes "6" ∷ []) ≡ None
twice = refl

no_value : reads (codes "--steps" ∷ []) ≡ None
no_value = refl

no_value_before_files : reads (codes "--steps" ∷ codes "--" ∷ codes "a.elf" ∷ []) ≡ None
no_value_before_files = refl

short_option : reads (codes "-x" ∷ []) ≡ None
short_option = refl

other_option : reads (codes "--generate" ∷ codes "2" ∷ []) ≡ None
other_option = refl
