-- New metavariables, one after another.
use Rattle.std.proofs.Common.{◌≡◌, ℕ, suc, List, [], ◌∷◌, ◌++◌, length, Option, Some, sym, ap, ap₂, ◌∙◌, subst, length-append, arith}
use Rattle.lf.specs.Eta.{append}
use Rattle.lf.specs.Syntax.{LfType, Spine, app}
use Rattle.lf_elaboration.specs.State.{State, with_metavariable}
use Rattle.lf_unification.specs.Offering.{pi_over}
use Rattle.lf_unification.specs.OpenTyping.{set_at}
use Rattle.lf_unification.specs.Unifiers.{Equation}
use Rattle.tw_metas.specs.State.{Story, changed, with_declared}
use Rattle.tw_metas.specs.State as metas
use Rattle.tw_putting.specs.Stores.{types_of}
use Rattle.tw_putting.proofs.Changes.{types_with_declared}
use Rattle.tw_terms.specs.OpenView.{open_args_of, open_term_of}
use Rattle.tw_terms.specs.declared.open_terms.Open.{Open}
use Rattle.tw_prune.proofs.Walking.{append-push}
use Rattle.tw_open.specs.Fresh.{OnlyDeclares, declares_nothing, declares_one}
use Rattle.tw_open.specs.View.{made_with}

-- the store grows
pub declares_then : {a b c : Story} → OnlyDeclares a b → OnlyDeclares b c → OnlyDeclares a c
declares_then d declares_nothing = d
declares_then d (declares_one A e) = declares_one A (declares_then d e)

pub declares_fresh : (a b : Story) (G : List LfType) (P : LfType) → G ≡ [] → b ≡ changed a (with_declared a.now G P) → OnlyDeclares a b
declares_fresh a b G P g e = subst (OnlyDeclares a) (sym (e ∙ ap (λ D. changed a (with_declared a.now D P)) g)) (declares_one P declares_nothing)

pub declares_same : (a b : Story) → b ≡ a → OnlyDeclares a b
declares_same a b e = subst (OnlyDeclares a) (sym e) declares_nothing

-- the state with one metavariable more
pub one_more_made : (s t : metas.State) (es : List Equation) (D : List LfType) (G : List LfType) (A P : LfType) → t ≡ with_declared s G P → P ≡ pi_over D A → made_with es t ≡ with_metavariable D A (made_with es s)
one_more_made s t es D G A P e p =
    ap (made_with es) e
    ∙ ap₂ (λ (ψ : ℕ → Option LfType) (n : ℕ). let w : State = record { metavariables = ψ; next = n; equations = es } in w) (types_with_declared s G P) (length-append s.declared (record { context = G; of_type = P } ∷ []) ∙ omega arith)
    ∙ ap (λ (X : LfType). let w : State = record { metavariables = set_at (length s.declared) (Some X) (types_of s); next = suc (length s.declared); equations = es } in w) p

-- one more argument
pub longer : (ts us : List Open) (t : Open) (T : Spine) → us ≡ ts ++ t ∷ [] → append (open_args_of ts) (app (open_term_of t) T) ≡ append (open_args_of us) T
longer ts us t T u = sym (append-push ts t T) ∙ ap (λ l. append (open_args_of l) T) (sym u)
