-- The families that a check names, each on so many arguments: which names aren't known, and whether the families take just these arguments.
use Rattle.std.specs.Prelude.{◌≡◌, ◌⊎◌, ℕ, List, [], ◌∷◌, ◌++◌, length, map as each, Bool, true, false, ◌&&◌, ◌==◌, Option, None, Some, if◌then◌else◌}
use Rattle.lf.specs.Entries.{Entry}
use Rattle.tw_names.specs.Unknown.{IsFirst, unknown_in}
use Rattle.tw_names.specs.declared.unknown.Mention.{Mention}
use Rattle.tw_parse.specs.declared.decl.ExtName.{ExtName}
use Rattle.tw_parse_checks.specs.Checks.{Call, Check, mode_short, mode_full, block, worlds, terminates}
use Rattle.tw_signature.specs.Names.{number_of}
use Rattle.tw_decl.specs.Labels.{is_known, is_label}
use Rattle.tw_decl.specs.Operators.{explicit_count, newest}
use Rattle.tw_decl.specs.Preferences.{is_family_body}
use Rattle.tw_decl.specs.View.{View}

-- a family, and how many arguments of it are written
pub record Application : Type 0 where
  pub family : ExtName
  pub count : ℕ

abbrev pub on : ExtName → ℕ → Application
on a n = record { family = a; count = n }

abbrev pub application_of : Call → Application
application_of p = on p.family (length p.names)

-- those of a check; a block names no family
abbrev pub applications : Check → List Application
applications (mode_short a ms) = on a (length ms) ∷ []
applications (mode_full ms a n d) = on a n ∷ []
applications (terminates o ps) = each application_of ps
applications (worlds ls ps) = each application_of ps
applications (block l n d) = []

-- the name, unless an entry or a block has it
abbrev pub unknown : View → ExtName → List Mention
unknown v a = if is_known v a.name then [] else record { name = a.name; at = a.at } ∷ []

abbrev pub unknown_names : View → List ExtName → List Mention
unknown_names v [] = []
unknown_names v (a ∷ others) = unknown v a ++ unknown_names v others

-- the families that are named
abbrev pub families_named : List Application → List ExtName
families_named xs = each (λ x. x.family) xs

-- what names nothing beside the families: lowercase names in the terms of a check, and its labels
abbrev pub unknown_besides : View → Check → List Mention
unknown_besides v (mode_full ms a n d) = unknown_in v.signature d
unknown_besides v (worlds ls ps) = unknown_names v ls
unknown_besides v _ = []

-- the names of a check that name nothing, in some order: those, and its families, in upper case too
abbrev pub unknown_in_check : View → Check → List Mention
unknown_in_check v c = unknown_besides v c ++ unknown_names v (families_named (applications c))

-- The name stands where a full form's family does, and a block alone has it. In the terms of the form it names nothing, but it is known.
abbrev pub IsItsLabel : View → Check → Mention → Type 0
IsItsLabel v (mode_full ms a n d) m = (m.at ≡ a.at) × (is_label v.checked.blocks a.name ≡ true) × (number_of v.signature a.name ≡ None)
IsItsLabel v _ m = ⊥

-- this is the first name of the check that isn't known
pub record IsFirstUnknown (v : View) (c : Check) (m : Mention) : Type 0 where
  pub first : IsFirst m (unknown_in_check v c)
  pub no_label : IsItsLabel v c m → ⊥

-- each name of the check is known: none names nothing, or the first that does is the full form's family, which is a label
abbrev pub AreKnown : View → Check → Type 0
AreKnown v c = (unknown_in_check v c ≡ []) ⊎ ((m : Mention) × IsFirst m (unknown_in_check v c) × IsItsLabel v c m)

-- it is a family, and has just so many explicit arguments
abbrev pub takes_just : ℕ → Option Entry → Bool
takes_just n (Some e) = is_family_body e.body && (explicit_count e == n)
takes_just n None = false

-- each of them is
abbrev pub all_take_just : List Entry → List Application → Bool
all_take_just es [] = true
all_take_just es (x ∷ xs) = takes_just x.count (newest es x.family.name) && all_take_just es xs

-- they name these families
abbrev pub NameFamilies : List Entry → List Application → List ℕ → Type 0
NameFamilies es xs families = each (λ x. number_of es x.family.name) xs ≡ each Some families

-- Each name of the check is known, and it names these families, each with all explicit arguments.
pub record IsApplied (v : View) (c : Check) (families : List ℕ) : Type 0 where
  pub known : unknown_in_check v c ≡ []
  pub named : NameFamilies v.signature (applications c) families
  pub takes : all_take_just v.signature (applications c) ≡ true

-- The names of a check are known, and one of those that should be a family's is none's, or that of one with more or fewer explicit arguments.
pub record IsMisapplied (v : View) (c : Check) : Type 0 where
  pub known : AreKnown v c
  pub off : all_take_just v.signature (applications c) ≡ false
