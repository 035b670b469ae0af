-- What is read off is a principal completion, and may be declared.
use Rattle.std.proofs.Common.{◌≡◌, ℕ, zero, suc, ◌+◌, List, [], ◌∷◌, length, Option, refl, sym, subst, arith, ap}
use Rattle.lf.specs.Entries.{Body, Entry, IsCanonicalSignature, body_quantifiers, declare_constant, declare_definition, declare_family, kind_quantifiers, quantifiers, signature_of}
use Rattle.lf.specs.Substitution.{keep}
use Rattle.lf.specs.Syntax.{Kind, LfType, Skeleton, kind_pi, pi}
use Rattle.lf.proofs.Entries.{canonical_is_signature}
use Rattle.lf_unification.specs.Dependency.{free_context, values}
use Rattle.lf_unification.specs.Offering.{pi_over}
use Rattle.lf_unification.specs.OpenTyping.{skeletons_of}
use Rattle.lf_unification.specs.Solving.{Never, Solved}
use Rattle.lf_elaboration.specs.Completions.{FreeValue}
use Rattle.lf_elaboration.specs.Kinds.{kind_over}
use Rattle.lf_elaboration.specs.Principal.{Completion, IsCompletion, IsPrincipal, WrittenBody, body_over, substitute_body, substitute_frees}
use Rattle.lf_elaboration.specs.PrincipalLaws.{fill_body}
use Rattle.lf_elaboration.specs.State.{State, store_of}
use Rattle.lf_elaboration.proofs.Principal.{never_completion, read_off_principal}
use Rattle.lf_elaboration.proofs.Reordered.{reordered_is_principal}
use Rattle.tw_metas.specs.State as metas
use Rattle.tw_putting.specs.Stores.{types_of}
use Rattle.tw_abstract.specs.ReadingLaws.{QuantifiersAreReordered, ReadingIsFilling}
use Rattle.tw_abstract.specs.Quantifiers.{AreQuantifiers}
use Rattle.tw_putting.specs.Ready.{IsReady}
use Rattle.tw_putting.specs.Whole.{whole}
use Rattle.tw_recon.specs.Hints.{fitted}
use Rattle.tw_recon.specs.Reading.{IsBodyReadAs}
use Rattle.tw_recon.specs.Reconstruction.{IsMade}
use Rattle.tw_recon.proofs.Fillings.{body_is_filled}
use Rattle.tw_recon.proofs.Settling.{body_is_open}

-- of the quantifiers and the body that are read off there is a principal completion
pub read_is_principal : QuantifiersAreReordered → ReadingIsFilling → (es : List Entry) → IsCanonicalSignature es → (ts : List Skeleton) (w : WrittenBody) (frees : List ℕ) (s : State) (b : Body) (after : metas.State) → IsMade es ts w frees s b → Solved (signature_of es) (store_of s) (whole [] after) → IsReady (signature_of es) [] after →
    (sites ms : List ℕ) (G : List LfType) (b' : Body) → AreQuantifiers after sites ms G → IsBodyReadAs after ms b b' → (vs : List FreeValue) × IsPrincipal es ts w (record { quantifiers = G; frees = vs; body = b' })
read_is_principal in_order filling es canonical ts w frees s b after m z r sites ms G b' q x =
    let (ρ, ρ', o, t) = in_order (signature_of es) (canonical_is_signature es canonical) after r z.well_formed sites ms G q in
    let (vs, h, p) = read_off_principal es canonical ts frees m.with_frees s m.frees_made w b m.body_made (whole [] after) z in
    let c : Completion = record { quantifiers = free_context (skeletons_of (types_of after)) z.well_formed.order; frees = vs; body = fill_body (skeletons_of (types_of after)) (values (skeletons_of (types_of after)) z.well_formed.order) b } in
    let e : substitute_body (λ i. keep (ρ i)) c.body ≡ b' = sym (body_is_filled filling (signature_of es) (canonical_is_signature es canonical) after r z.well_formed ms ρ t b b' (body_is_open es canonical ts w frees s b after m z) x) in (
      substitute_frees (λ i. keep (ρ i)) vs,
      subst (λ k. IsPrincipal es ts w (record { quantifiers = G; frees = substitute_frees (λ i. keep (ρ i)) vs; body = k })) e (reordered_is_principal es canonical ts frees m.with_frees s m.frees_made w b m.body_made (whole [] after) z c p G ρ ρ' o),
    )

-- without a typed unifier there is no completion
pub no_completion : (es : List Entry) → IsCanonicalSignature es → (ts : List Skeleton) (w : WrittenBody) (frees : List ℕ) (s : State) (b : Body) → IsMade es ts w frees s b → Never (signature_of es) [] (store_of s) → (c : Completion) → IsCompletion es ts w c → ⊥
no_completion es canonical ts w frees s b m n c i = never_completion es canonical ts frees m.with_frees s m.frees_made w b m.body_made n c i

type_quantifiers_over : (F : List LfType) (A : LfType) → quantifiers (pi_over F A) ≡ length F + quantifiers A
type_quantifiers_over [] A = omega arith
type_quantifiers_over (B ∷ F) A = let h = type_quantifiers_over F (pi B A) in omega (arith, h)

pub kind_quantifiers_over : (F : List LfType) (K : Kind) → kind_quantifiers (kind_over F K) ≡ length F + kind_quantifiers K
kind_quantifiers_over [] K = omega arith
kind_quantifiers_over (B ∷ F) K = let h = kind_quantifiers_over F (kind_pi B K) in omega (arith, h)

-- its quantifiers are those of the completion, and then those of the body
pub quantifiers_over : (F : List LfType) (b : Body) → body_quantifiers (body_over F b) ≡ length F + body_quantifiers b
quantifiers_over F (declare_family K) = kind_quantifiers_over F K
quantifiers_over F (declare_constant A) = type_quantifiers_over F A
quantifiers_over F (declare_definition M A c) = type_quantifiers_over F A

pub fitted_length : (n : ℕ) (hs : List (Option (List ℕ))) → length (fitted n hs) ≡ n
fitted_length zero hs = refl
fitted_length (suc n) [] = ap suc (fitted_length n [])
fitted_length (suc n) (h ∷ hs) = ap suc (fitted_length n hs)
