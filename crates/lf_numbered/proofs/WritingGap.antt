-- Numbers past a gap, and terms whose constants are moved by them and back.
use Rattle.std.proofs.Common.{◌≡◌, ℕ, zero, suc, List, [], ◌∷◌, ◌+◌, Option, Some, None, refl, sym, ap, ap₂, ◌∙◌, arith}
use Rattle.std.specs.Prelude.{◌<◌, ◌≤◌}
use Rattle.lf.specs.Syntax.{constant, variable, metavariable, Term, Spine, lambda, root, nil, app, LfType, Kind, kind_pi, star, Skeleton, base, arrow, skeleton, rename_spine}
use Rattle.lf.specs.Substitution.{Image, keep, put}
use Rattle.lf.specs.Eta.{add_last, eta_expand}
use Rattle.lf.specs.Typing.{Signature, IsType, IsKind}
use Rattle.lf_cases.specs.Case.{as_term, behind_entries}
use Rattle.lf_numbered.specs.NumberedCase.{some_spine}
use Rattle.lf_numbered.specs.NumberedInstance.{move, move_spine, move_type}
use Rattle.lf_numbered.specs.WritingRoom.{past_gap, gap_back, with_gap, move_kind, move_image}
use Rattle.lf_numbered.proofs.Reading.{IsOld, type_only, none_read_type}
use Rattle.lf_numbered.proofs.WritingMove.{move_spine_renamed, same_type_moved}

-- Numbers past the gap
pub past_low : (k n c : ℕ) → c < k → past_gap k n c ≡ c
past_low zero n c l = absurd (omega (arith, l))
past_low (suc k) n zero l = refl
past_low (suc k) n (suc c) l = ap suc (past_low k n c (omega (arith, l)))

pub gap_at : {A : Type 0} (k n : ℕ) (f : ℕ → Option A) (c : ℕ) → with_gap k n f (past_gap k n c) ≡ f c
gap_at zero zero f c = ap f (none c)
  where
    none : (c : ℕ) → c + 0 ≡ c
    none c = omega arith
gap_at zero (suc n) f c = ap (with_gap zero (suc n) f) (next c n) ∙ gap_at zero n f c
  where
    next : (c n : ℕ) → c + suc n ≡ suc (c + n)
    next c n = omega arith
gap_at (suc k) n f zero = refl
gap_at (suc k) n f (suc c) = gap_at k n (λ i. f (suc i)) c

pub gap_none : {A : Type 0} (k n : ℕ) (f : ℕ → Option A) (c : ℕ) → k ≤ c → c < k + n → with_gap k n f c ≡ None
gap_none zero zero f c l m = absurd (omega (arith, m))
gap_none zero (suc n) f zero l m = refl
gap_none zero (suc n) f (suc c) l m = gap_none zero n f c (omega arith) (omega (arith, m))
gap_none (suc k) n f zero l m = absurd (omega (arith, l))
gap_none (suc k) n f (suc c) l m = gap_none k n (λ i. f (suc i)) c (omega (arith, l)) (omega (arith, m))

pub gap_from : {A : Type 0} (k n : ℕ) (f : ℕ → Option A) (c : ℕ) (x : A) → with_gap k n f c ≡ Some x → (d : ℕ) × (c ≡ past_gap k n d) × (f d ≡ Some x)
gap_from zero zero f c x e = (c, none c, e)
  where
    none : (c : ℕ) → c ≡ c + 0
    none c = omega arith
gap_from zero (suc n) f zero x e = absurd cc
gap_from zero (suc n) f (suc c) x e = let (d, p, q) = gap_from zero n f c x e in (d, next c d n p, q)
  where
    next : (c d n : ℕ) → c ≡ d + n → suc c ≡ d + suc n
    next c d n p = omega (arith, p)
gap_from (suc k) n f zero x e = (zero, refl, e)
gap_from (suc k) n f (suc c) x e = let (d, p, q) = gap_from k n (λ i. f (suc i)) c x e in (suc d, ap suc p, q)

pub past_back : (k n c : ℕ) → gap_back k n (past_gap k n c) ≡ c
past_back zero zero c = none c
  where
    none : (c : ℕ) → c + 0 ≡ c
    none c = omega arith
past_back zero (suc n) c = ap (gap_back zero (suc n)) (next c n) ∙ past_back zero n c
  where
    next : (c n : ℕ) → c + suc n ≡ suc (c + n)
    next c n = omega arith
past_back (suc k) n zero = refl
past_back (suc k) n (suc c) = ap suc (past_back k n c)

-- moved twice, and back
mutual
  pub twice : (γ δ : ℕ → ℕ) (M : Term) → ((c : ℕ) → δ (γ c) ≡ c) → move δ (move γ M) ≡ M
  twice γ δ (lambda M) h = ap lambda (twice γ δ M h)
  twice γ δ (root (constant c) S) h = ap₂ (λ d T. root (constant d) T) (h c) (twice_spine γ δ S h)
  twice γ δ (root (variable i) S) h = ap (root (variable i)) (twice_spine γ δ S h)
  twice γ δ (root (metavariable m) S) h = ap (root (metavariable m)) (twice_spine γ δ S h)

  pub twice_spine : (γ δ : ℕ → ℕ) (S : Spine) → ((c : ℕ) → δ (γ c) ≡ c) → move_spine δ (move_spine γ S) ≡ S
  twice_spine γ δ nil h = refl
  twice_spine γ δ (app M S) h = ap₂ app (twice γ δ M h) (twice_spine γ δ S h)

pub image_twice : (γ δ : ℕ → ℕ) (x : Image) → ((c : ℕ) → δ (γ c) ≡ c) → move_image δ (move_image γ x) ≡ x
image_twice γ δ (keep i) h = refl
image_twice γ δ (put a N) h = ap (put a) (twice γ δ N h)

-- Spines of values
pub add_moved : (γ : ℕ → ℕ) (S : Spine) (N : Term) → move_spine γ (add_last S N) ≡ add_last (move_spine γ S) (move γ N)
add_moved γ nil N = refl
add_moved γ (app M S) N = ap (app (move γ M)) (add_moved γ S N)

pub long_moved : (γ : ℕ → ℕ) (a : Skeleton) (i : ℕ) (T : Spine) → move γ (eta_expand a (variable i) T) ≡ eta_expand a (variable i) (move_spine γ T)
long_moved γ (base c) i T = refl
long_moved γ (arrow a b) i T = ap lambda (long_moved γ b (suc i) (add_last (rename_spine suc T) (eta_expand a (variable zero) nil)) ∙ ap (eta_expand b (variable (suc i))) (add_moved γ (rename_spine suc T) (eta_expand a (variable zero) nil) ∙ ap₂ add_last (move_spine_renamed γ suc T) (long_moved γ a zero nil)))

pub term_moved : (γ : ℕ → ℕ) (a : Skeleton) (x : Image) → move γ (as_term a x) ≡ as_term a (move_image γ x)
term_moved γ a (keep i) = long_moved γ a i nil
term_moved γ a (put b N) = refl

pub some_moved : (γ : ℕ → ℕ) (O : List LfType) (υ : ℕ → Image) → move_spine γ (some_spine O υ) ≡ some_spine O (λ i. move_image γ (υ i))
some_moved γ [] υ = refl
some_moved γ (A ∷ O) υ = add_moved γ (some_spine O (λ i. υ (suc i))) (as_term (skeleton A) (υ zero)) ∙ ap₂ add_last (some_moved γ O (λ i. υ (suc i))) (term_moved γ (skeleton A) (υ zero))

pub behind_moved : (γ : ℕ → ℕ) (es : List LfType) (φ : ℕ → Image) (i : ℕ) → behind_entries es (λ j. move_image γ (φ j)) i ≡ move_image γ (behind_entries es φ i)
behind_moved γ [] φ i = refl
behind_moved γ (E ∷ es) φ i = behind_moved γ es (λ j. φ (suc j)) i

pub same_old : (Σ : Signature) (γ : ℕ → ℕ) (G : List LfType) (A : LfType) → ((c : ℕ) → IsOld Σ c → γ c ≡ c) → IsType Σ G A → move_type γ A ≡ A
same_old Σ γ G A h a = ap (move_type γ) (sym (none_read_type (IsOld Σ) (λ c. None) A (λ c p. refl) (type_only Σ G A a))) ∙ same_type_moved γ (IsOld Σ) (λ c. None) A (λ c p e. h c p) (type_only Σ G A a) ∙ none_read_type (IsOld Σ) (λ c. None) A (λ c p. refl) (type_only Σ G A a)

pub kind_only : (Σ : Signature) (γ : ℕ → ℕ) (G : List LfType) (K : Kind) → ((c : ℕ) → IsOld Σ c → γ c ≡ c) → IsKind Σ G K → move_kind γ K ≡ K
kind_only Σ γ G (kind_pi A K) h (a, k) = ap₂ kind_pi (same_old Σ γ G A h a) (kind_only Σ γ (A ∷ G) K h k)
kind_only Σ γ G star h k = refl
