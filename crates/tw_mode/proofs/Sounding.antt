-- Whether marks are sound, one place of a kind after the other.
use Rattle.std.proofs.Common.{◌≡◌, ℕ, suc, ◌+◌, ◌<◌, List, [], ◌∷◌, ◌++◌, Bool, true, false, length, map, length-append, refl, sym, ap, ◌∙◌, subst, arith, inl, inr}
use Rattle.std.specs.Prelude.{not, Option, Some, None, Decides}
use Rattle.lf.specs.Syntax.{LfType, Kind, kind_pi, star}
use Rattle.lf.specs.Variables.{UsesType}
use Rattle.lf_checks.specs.Clause.{with_newest}
use Rattle.lf_checks.specs.Marks.{Mark, input, output, free, is_input, is_output, AreSound}
use Rattle.lf_checks.specs.ModeFaults.{FirstUnsound}
use Rattle.tw_clause.specs.View.{mark_of}
use Rattle.tw_clause.specs.declared.name.Mark3.{Mark3}
use Rattle.tw_mode.specs.Checks.{MayHave, Outcome}
use Rattle.tw_mode.specs.Scopes.{in_marks}
use Rattle.tw_mode.proofs.Sets.{newest_hide, newest_under, pushed_set}

-- what it comes to from a place on
abbrev pub SoundOutcome : (ℕ → Bool) → ℕ → List Mark → Kind → Option ℕ → Type 0
SoundOutcome V n ms K o = Outcome (AreSound V ms K) (FirstUnsound n V ms K) o

one_further : (V : ℕ → Bool) (n : ℕ) (b : Mark) (rest : List Mark) (A : LfType) (L : Kind) (o : Option ℕ) → MayHave V b A → SoundOutcome (with_newest (not (is_output b)) V) (suc n) rest L o → SoundOutcome V n (b ∷ rest) (kind_pi A L) o
one_further V n input rest A L None u h = (u, subst (λ W. AreSound W rest L) (newest_under V) h)
one_further V n input rest A L (Some j) u h = inr (u, subst (λ W. FirstUnsound (suc n) W rest L j) (newest_under V) h)
one_further V n output rest A L None u h = subst (λ W. AreSound W rest L) (newest_hide V) h
one_further V n output rest A L (Some j) u h = subst (λ W. FirstUnsound (suc n) W rest L j) (newest_hide V) h
one_further V n free rest A L None u h = subst (λ W. AreSound W rest L) (newest_under V) h
one_further V n free rest A L (Some j) u h = subst (λ W. FirstUnsound (suc n) W rest L j) (newest_under V) h

pub marks_go_on : (us vs : List Bool) (ms rest : List Mark) (b : Mark) (K L : Kind) (A : LfType) (o : Option ℕ) → ms ≡ b ∷ rest → K ≡ kind_pi A L → MayHave (in_marks false (length us) us) b A → vs ≡ us ++ not (is_output b) ∷ [] → SoundOutcome (in_marks false (length vs) vs) (length vs + 1) rest L o → SoundOutcome (in_marks false (length us) us) (length us + 1) ms K o
marks_go_on us vs ms rest b K L A o e k u v h =
    subst (λ xs. SoundOutcome V (length us + 1) xs K o) (sym e)
    (subst (λ X. SoundOutcome V (length us + 1) (b ∷ rest) X o) (sym k)
    (one_further V (length us + 1) b rest A L o u
    (subst (λ n. SoundOutcome (with_newest (not (is_output b)) V) n rest L o) more
    (subst (λ W. SoundOutcome W (length vs + 1) rest L o) same h))))
  where
    V : ℕ → Bool
    V = in_marks false (length us) us

    longer : length vs ≡ suc (length us)
    longer = let l = length-append us (not (is_output b) ∷ []) in let n = ap length v in omega (arith, l, n)

    more : length vs + 1 ≡ suc (length us + 1)
    more = omega (arith, longer)

    same : in_marks false (length vs) vs ≡ with_newest (not (is_output b)) V
    same = ap (λ n. in_marks false n vs) longer ∙ ap (in_marks false (suc (length us))) v ∙ pushed_set false (not (is_output b)) (length us) us refl

pub no_mark : (V : ℕ → Bool) (n : ℕ) (ms : List Mark) (K L : Kind) (A : LfType) → ms ≡ [] → K ≡ kind_pi A L → FirstUnsound n V ms K n
no_mark V n ms K L A e k = subst (λ xs. FirstUnsound n V xs K n) (sym e) (subst (λ X. FirstUnsound n V [] X n) (sym k) refl)

refused : (V : ℕ → Bool) (n : ℕ) (b : Mark) (rest : List Mark) (A : LfType) (L : Kind) → (MayHave V b A → ⊥) → FirstUnsound n V (b ∷ rest) (kind_pi A L) n
refused V n input rest A L f = inl (f, refl)
refused V n output rest A L f = absurd (f tt)
refused V n free rest A L f = absurd (f tt)

pub wrong_mark : (V : ℕ → Bool) (n : ℕ) (ms rest : List Mark) (b : Mark) (K L : Kind) (A : LfType) → ms ≡ b ∷ rest → K ≡ kind_pi A L → (MayHave V b A → ⊥) → FirstUnsound n V ms K n
wrong_mark V n ms rest b K L A e k f = subst (λ xs. FirstUnsound n V xs K n) (sym e) (subst (λ X. FirstUnsound n V (b ∷ rest) X n) (sym k) (refused V n b rest A L f))

pub no_place : (V : ℕ → Bool) (n j : ℕ) (ms : List Mark3) (K : Kind) → 0 < length ms → K ≡ star → j ≡ n → FirstUnsound n V (map mark_of ms) K j
no_place V n j [] K h k e = absurd (omega (arith, h))
no_place V n j (m ∷ ms) K h k e = subst (λ X. FirstUnsound n V (map mark_of (m ∷ ms)) X j) (sym k) e

pub all_sound : (V : ℕ → Bool) (ms : List Mark) (K : Kind) → ms ≡ [] → K ≡ star → AreSound V ms K
all_sound V ms K e k = subst (λ xs. AreSound V xs K) (sym e) (subst (λ X. AreSound V [] X) (sym k) tt)

-- a mark that isn't `+` may stand at any place
pub free_of_types : (V : ℕ → Bool) (b : Mark) (A : LfType) → is_input b ≡ false → MayHave V b A
free_of_types V input A e = absurd cc
free_of_types V output A e = tt
free_of_types V free A e = tt

pub input_uses : (V : ℕ → Bool) (b : Mark) (A : LfType) (t : Bool) → is_input b ≡ true → Decides t (UsesType V A) → Decides t (MayHave V b A)
input_uses V input A t e d = d
input_uses V output A t e d = absurd cc
input_uses V free A t e d = absurd cc
