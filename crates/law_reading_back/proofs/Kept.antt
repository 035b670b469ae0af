-- What is shown of an entry gives the entry's kind, type and term.
use Rattle.std.proofs.Common.{◌≡◌, ℕ, ◌≤◌, List, [], length, Bool, true, false, Option, Some, None, refl}
use Rattle.std.specs.Prelude.{nat_lt, if◌then◌else◌}
use Rattle.std.specs.List.{slice_get}
use Rattle.std.specs.FinMap as map
use Rattle.lf.specs.Entries.{Entry, Body, declare_family, declare_constant, declare_definition, signature_of, BodyIsTyped}
use Rattle.lf.specs.Syntax.{Term, LfType}
use Rattle.lf.specs.Typing.{HasType, IsType}
use Rattle.lf.specs.Variables.{target}
use Rattle.lf.proofs.Entries.{canonical_is_signature}
use Rattle.tw_parse.specs.Syntax as syntax
use Rattle.tw_fixity.specs.Names.{Names as Scope}
use Rattle.tw_print.specs.Names.{Scene, Preferences, fresh_name, lower_base, upper_base, upper_of, lower_in, lower_of}
use Rattle.tw_print.specs.Shown.{hint_in, base_by, leading_base, nesting_limit}
use Rattle.law_reading_back.specs.Laws.{IsOver, GivesClassifier, ClassifierIsKept, DefinedIsKept}
use Rattle.law_reading_back.specs.Names.{IsName, PreferNames, HasGoodPreferences, AreGoodHints, HasRoom}
use Rattle.law_reading_back.specs.Sketches.{classifier_sketch, defined_sketch}
use Rattle.law_reading_back.specs.Spelling.{Spells, IsUnhidden}
use Rattle.law_reading_back.proofs.Choosing.{chosen, upper_default, lower_default}
use Rattle.law_reading_back.proofs.Openness.{NamesOpen}
use Rattle.law_reading_back.proofs.Parts.{IsNew, IsGood}
use Rattle.law_reading_back.proofs.Meaning.{leading_type_kept, leading_kind_kept, defined_kept}

-- each base is a name
upper_name : (o : Option Preferences) → ((row : Preferences) → o ≡ Some row → PreferNames row) → IsName (upper_of o)
upper_name None h = upper_default
upper_name (Some row) h = (h row refl).upper

lower_in_name : (o : Option (List ℕ)) → ((x : List ℕ) → o ≡ Some x → IsName x) → IsName (lower_in o)
lower_in_name None h = lower_default
lower_in_name (Some x) h = h x refl

lower_name : (o : Option Preferences) → ((row : Preferences) → o ≡ Some row → PreferNames row) → IsName (lower_of o)
lower_name None h = lower_default
lower_name (Some row) h = lower_in_name row.1 (λ x q. (h row refl).lower x q)

lower_base_name : (s : Scene) (A : LfType) → HasGoodPreferences s → IsName (lower_base s A)
lower_base_name s A h = lower_name (map.get s.names (target A)) (h (target A))

upper_base_name : (s : Scene) (A : LfType) → HasGoodPreferences s → IsName (upper_base s A)
upper_base_name s A h = upper_name (map.get s.names (target A)) (h (target A))

by_hint : (o : Option (Option (List ℕ))) (base : List ℕ) → ((x : List ℕ) → o ≡ Some (Some x) → IsName x) → IsName base → IsName (base_by (hint_in o) base)
by_hint None base h n = n
by_hint (Some None) base h n = n
by_hint (Some (Some x)) base h n = h x refl

one_of : (b : Bool) (x y : List ℕ) → IsName x → IsName y → IsName (if b then x else y)
one_of true x y h k = h
one_of false x y h k = k

leading_base_name : (s : Scene) (implicit : ℕ) (hints : List (Option (List ℕ))) (k : ℕ) (A : LfType) → HasGoodPreferences s → AreGoodHints hints → IsName (leading_base s implicit hints k A)
leading_base_name s implicit hints k A p h =
    by_hint (slice_get hints k) (if nat_lt k implicit then upper_base s A else lower_base s A) (h k)
    (one_of (nat_lt k implicit) (upper_base s A) (lower_base s A) (upper_base_name s A p) (lower_base_name s A p))

pub good_name : (s : Scene) → HasRoom s → HasGoodPreferences s → (ns : Scope) (A : LfType) → length ns ≤ nesting_limit → IsGood s ns (fresh_name s ns (lower_base s A))
good_name s room p ns A deep = chosen s ns (lower_base s A) room deep (lower_base_name s A p)

pub good_leading : (s : Scene) → HasRoom s → HasGoodPreferences s → (implicit : ℕ) (hints : List (Option (List ℕ))) → AreGoodHints hints → (ns : Scope) (k : ℕ) (A : LfType) → length ns ≤ nesting_limit → IsGood s ns (fresh_name s ns (leading_base s implicit hints k A))
good_leading s room p implicit hints h ns k A deep = chosen s ns (leading_base s implicit hints k A) room deep (leading_base_name s implicit hints k A p h)

module _ (s : Scene) (es : List Entry) (o : IsOver s es) where
  fresh : (ns : Scope) (A : LfType) → length ns ≤ nesting_limit → IsNew s ns (fresh_name s ns (lower_base s A))
  fresh ns A deep = (good_name s o.room o.preferences ns A deep).new

  leading : (implicit : ℕ) (hints : List (Option (List ℕ))) → AreGoodHints hints → (ns : Scope) (k : ℕ) (A : LfType) → length ns ≤ nesting_limit → IsNew s ns (fresh_name s ns (leading_base s implicit hints k A))
  leading implicit hints h ns k A deep = (good_leading s o.room o.preferences implicit hints h ns k A deep).new

  kept_by : (b : Body) (implicit : ℕ) (hints : List (Option (List ℕ))) (U : syntax.Term) → BodyIsTyped (signature_of es) b → AreGoodHints hints
      → IsUnhidden s (classifier_sketch s implicit hints b) → Spells (classifier_sketch s implicit hints b) U → GivesClassifier es U b × NamesOpen es [] U
  kept_by (declare_family K) implicit hints U t h u w = leading_kind_kept s o.newer es o.entries o.canonical (canonical_is_signature es o.canonical) fresh implicit hints (leading implicit hints h) K t u U w
  kept_by (declare_constant A) implicit hints U t h u w = leading_type_kept s o.newer es o.entries o.canonical (canonical_is_signature es o.canonical) fresh implicit hints (leading implicit hints h) A t u U w
  kept_by (declare_definition M A b) implicit hints U t h u w = leading_type_kept s o.newer es o.entries o.canonical (canonical_is_signature es o.canonical) fresh implicit hints (leading implicit hints h) A t.0 u U w

pub classifier_kept : ClassifierIsKept
classifier_kept s es e U o t h u w = (kept_by s es o e.body e.implicit e.hints U t h u w).0

-- and each name in it is open
pub classifier_open : (s : Scene) (es : List Entry) (e : Entry) (U : syntax.Term) → IsOver s es → BodyIsTyped (signature_of es) e.body → AreGoodHints e.hints
    → IsUnhidden s (classifier_sketch s e.implicit e.hints e.body) → Spells (classifier_sketch s e.implicit e.hints e.body) U → NamesOpen es [] U
classifier_open s es e U o t h u w = (kept_by s es o e.body e.implicit e.hints U t h u w).1

pub definition_kept : DefinedIsKept
definition_kept s es M A P o a m u w = (defined_kept s o.newer es o.entries o.canonical (canonical_is_signature es o.canonical) (fresh s es o) M A a m u P w).0

pub definition_open : (s : Scene) (es : List Entry) (M : Term) (A : LfType) (P : syntax.Term) → IsOver s es → IsType (signature_of es) [] A → HasType (signature_of es) [] M A
    → IsUnhidden s (defined_sketch s M A) → Spells (defined_sketch s M A) P → NamesOpen es [] P
definition_open s es M A P o a m u w = (defined_kept s o.newer es o.entries o.canonical (canonical_is_signature es o.canonical) (fresh s es o) M A a m u P w).1
