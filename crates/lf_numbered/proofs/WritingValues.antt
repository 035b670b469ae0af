-- Values of a block's variables that are the entry constants on the values of the `some` variables.
use Rattle.std.proofs.Common.{◌≡◌, ℕ, zero, suc, List, [], ◌∷◌, length, ◌+◌, refl, sym, ap, ap₂, ◌∙◌}
use Rattle.lf.specs.Syntax.{constant, variable, Spine, nil, LfType, Skeleton, skeleton, rename, rename_spine}
use Rattle.lf.specs.Substitution.{Image, keep, put, rename_image, lift, after}
use Rattle.lf.specs.AtOnce.{in_front}
use Rattle.lf.specs.Eta.{add_last, eta_expand}
use Rattle.lf.proofs.Eta.{rename_add_last, rename_eta_expand}
use Rattle.lf_cases.specs.Case.{as_term, behind_entries}
use Rattle.lf_cases.specs.Cover.{place_of}
use Rattle.lf.specs.Variables.{onto}
use Rattle.lf_coverage.proofs.GroundTyped.{past_one}
use Rattle.lf_numbered.specs.EntryConstants.{entry_images}
use Rattle.lf_numbered.specs.NumberedCase.{some_spine}
use Rattle.lf_numbered.proofs.EntryPatternsAmong.{lift_past}
use mathlib.Core.Path.{fun_ext}

-- one more variable in front
abbrev pub moved : (ℕ → Image) → ℕ → Image
moved ψ i = rename_image suc (ψ i)

behind_moved : (es : List LfType) (ψ : ℕ → Image) (i : ℕ) → behind_entries es (moved ψ) i ≡ moved (behind_entries es ψ) i
behind_moved [] ψ i = refl
behind_moved (E ∷ es) ψ i = behind_moved es (λ j. ψ (suc j)) i

pub term_moved : (a : Skeleton) (x : Image) → as_term a (rename_image suc x) ≡ rename suc (as_term a x)
term_moved a (keep i) = sym (rename_eta_expand suc a (variable i) nil)
term_moved a (put b N) = refl

pub some_moved : (O : List LfType) (υ : ℕ → Image) → some_spine O (moved υ) ≡ rename_spine suc (some_spine O υ)
some_moved [] υ = refl
some_moved (A ∷ O) υ = ap₂ add_last (some_moved O (λ i. υ (suc i))) (term_moved (skeleton A) (υ zero)) ∙ sym (rename_add_last suc (some_spine O (λ i. υ (suc i))) (as_term (skeleton A) (υ zero)))

images_moved : (n : ℕ) (U : Spine) (es : List LfType) (υ : ℕ → Image) (i : ℕ) → entry_images n (rename_spine suc U) es (moved υ) i ≡ moved (entry_images n U es υ) i
images_moved n U [] υ i = refl
images_moved n U (E ∷ es) υ zero = ap (put (skeleton E)) (sym (rename_eta_expand suc (skeleton E) (constant (n + length es)) U))
images_moved n U (E ∷ es) υ (suc i) = images_moved n U es υ i

-- The values ψ of the entries es over O: each is its constant on the `some` terms.
abbrev pub terms_behind : List LfType → List LfType → (ℕ → Image) → Spine
terms_behind O es ψ = some_spine O (behind_entries es ψ)

abbrev pub AreWritten : ℕ → List LfType → List LfType → (ℕ → Image) → Type 0
AreWritten n O es ψ = (i : ℕ) → ψ i ≡ entry_images n (terms_behind O es ψ) es (behind_entries es ψ) i

pub written_moved : (n : ℕ) (O es : List LfType) (ψ : ℕ → Image) → AreWritten n O es ψ → AreWritten n O es (moved ψ)
written_moved n O es ψ w i =
    ap (rename_image suc) (w i)
    ∙ sym (images_moved n (terms_behind O es ψ) es (behind_entries es ψ) i)
    ∙ ap (λ U. entry_images n U es (moved (behind_entries es ψ)) i) (sym (some_moved O (behind_entries es ψ)) ∙ ap (some_spine O) (sym (fun_ext (behind_moved es ψ))))
    ∙ ap (λ υ. entry_images n (terms_behind O es (moved ψ)) es υ i) (sym (fun_ext (behind_moved es ψ)))

-- the constant of one more entry
abbrev pub entry_value : ℕ → List LfType → List LfType → LfType → (ℕ → Image) → Image
entry_value n O es E ψ = put (skeleton E) (eta_expand (skeleton E) (constant (n + length es)) (terms_behind O es ψ))

pub written_next : (n : ℕ) (O es : List LfType) (E : LfType) (ψ : ℕ → Image) → AreWritten n O es ψ → AreWritten n O (E ∷ es) (in_front (entry_value n O es E ψ) ψ)
written_next n O es E ψ w zero = refl
written_next n O es E ψ w (suc i) = w i

-- at the place of an entry
pub written_at : (n : ℕ) (U : Spine) (later : List LfType) (E : LfType) (ds : List LfType) (υ : ℕ → Image) → entry_images n U (onto later (E ∷ ds)) υ (place_of later) ≡ put (skeleton E) (eta_expand (skeleton E) (constant (n + length ds)) U)
written_at n U [] E ds υ = refl
written_at n U (D ∷ later) E ds υ = written_at n U later E ds υ

-- values put into what has moved over a new variable
pub front_after : (x : Image) (ρ φ : ℕ → Image) → after (in_front x ρ) (moved φ) ≡ after ρ φ
front_after x ρ φ = fun_ext (λ i. past_one x ρ (φ i))

pub lift_after : (ρ φ : ℕ → Image) → after (lift ρ) (moved φ) ≡ moved (after ρ φ)
lift_after ρ φ = fun_ext (λ i. lift_past ρ (φ i))

pub front_lift : (x : Image) (ρ φ : ℕ → Image) → after (in_front x ρ) (lift φ) ≡ in_front x (after ρ φ)
front_lift x ρ φ = fun_ext at
  where
    at : (i : ℕ) → after (in_front x ρ) (lift φ) i ≡ in_front x (after ρ φ) i
    at zero = refl
    at (suc i) = past_one x ρ (φ i)
