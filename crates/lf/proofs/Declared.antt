-- Every family below a declared family is declared, so the families below it are self-contained.
use Rattle.std.proofs.Common.{ℕ, List, [], ◌∷◌, subst, sym, inl, inr}
use Rattle.std.specs.Prelude.{Bool}
use Rattle.lf.specs.Syntax.{LfType, Kind, pi, atom, kind_pi, star}
use Rattle.lf.specs.Typing.{Signature, IsType, IsKind, IsContext, IsSignature}
use Rattle.lf.specs.Variables.{target, onto}
use Rattle.lf.specs.Subordination.{Block, Member, IsDeclared, AreTypedBlocks, Quantifies, KindQuantifies, Below, below_itself, below_through, below_in_constant, below_in_kind, below_in_entry, SelfContained, IsBelowTest}
use Rattle.lf.proofs.Strength.{below_contained}

target_declared : (Σ : Signature) (G : List LfType) (A : LfType) → IsType Σ G A → IsDeclared Σ (target A)
target_declared Σ G (pi A B) (a, b) = target_declared Σ (A ∷ G) B b
target_declared Σ G (atom a S) (K, e, s) = (K, e)

quantified_declared : (Σ : Signature) (G : List LfType) (A : LfType) (a b : ℕ) → IsType Σ G A → Quantifies a b A → IsDeclared Σ a
quantified_declared Σ G (pi A B) a b (t, u) (inl (e, f)) = subst (IsDeclared Σ) e (target_declared Σ G A t)
quantified_declared Σ G (pi A B) a b (t, u) (inr (inl q)) = quantified_declared Σ G A a b t q
quantified_declared Σ G (pi A B) a b (t, u) (inr (inr q)) = quantified_declared Σ (A ∷ G) B a b u q
quantified_declared Σ G (atom c S) a b t q = absurd q

kind_quantified_declared : (Σ : Signature) (G : List LfType) (f : ℕ) (K : Kind) (a b : ℕ) → IsKind Σ G K → KindQuantifies f a b K → IsDeclared Σ a
kind_quantified_declared Σ G f (kind_pi A K) a b (t, u) (inl (e, g)) = subst (IsDeclared Σ) e (target_declared Σ G A t)
kind_quantified_declared Σ G f (kind_pi A K) a b (t, u) (inr (inl q)) = quantified_declared Σ G A a b t q
kind_quantified_declared Σ G f (kind_pi A K) a b (t, u) (inr (inr q)) = kind_quantified_declared Σ (A ∷ G) f K a b u q
kind_quantified_declared Σ G f star a b t q = absurd q

-- an entry of a typed block is a type over what precedes it
entry_typed : (Σ : Signature) (C : List LfType) (E : LfType) (es : List LfType) → IsContext Σ (onto es C) → Member E es → (G : List LfType) × IsType Σ G E
entry_typed Σ C E [] w i = absurd i
entry_typed Σ C E (D ∷ es) (w, t) (inl e) = (onto es C, subst (IsType Σ (onto es C)) (sym e) t)
entry_typed Σ C E (D ∷ es) (w, t) (inr i) = entry_typed Σ C E es w i

pub below_declared : (Σ : Signature) (W : List Block) → IsSignature Σ → AreTypedBlocks Σ W → {a b : ℕ} → Below Σ W a b → IsDeclared Σ b → IsDeclared Σ a
below_declared Σ W ok w below_itself d = d
below_declared Σ W ok w (below_through p q) d = below_declared Σ W ok w p (below_declared Σ W ok w q d)
below_declared Σ W ok w (below_in_constant {a = a} {b = b} c U e q) d = quantified_declared Σ [] U a b (ok.types_ok c U e) q
below_declared Σ W ok w (below_in_kind {a = a} {b = b} f K e q) d = kind_quantified_declared Σ [] f K a b (ok.kinds_ok f K e) q
below_declared Σ W ok w (below_in_entry {a = a} {b = b} B E i j q) d = let (G, t) = entry_typed Σ B.some E B.entries (w B i) j in quantified_declared Σ G E a b t q

pub below_self_contained : (Σ : Signature) (W : List Block) (S : ℕ → Bool) (f : ℕ) → IsSignature Σ → AreTypedBlocks Σ W → IsDeclared Σ f → IsBelowTest Σ W S f → SelfContained Σ W S
below_self_contained Σ W S f ok w d t = below_contained Σ W S f t (λ a s. below_declared Σ W ok w ((t a).0 s) d)
