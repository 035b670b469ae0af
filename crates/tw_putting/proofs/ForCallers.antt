-- What callers take from the calls: results that are too deep are deep terms of unification.
use Rattle.std.proofs.Common.{ℕ, ◌<◌, ◌⊎◌, inl, inr, arith}
use Rattle.lf.specs.Depth.{depth, depth_limit, spine_depth}
use Rattle.lf.specs.Syntax.{Spine, Term, LfType, atom, pi}
use Rattle.lf.proofs.Depth.{below_max}
use Rattle.lf_unification.specs.DeepEquations.{IsDeepSpine, IsDeepTerm, IsDeepType, PutHasDeep}
use Rattle.lf_unification.specs.Putting.{PutsIn, PutsInSpine, put_at_bound, put_at_rigid, put_at_unbound, put_in_argument, put_nowhere, put_under_lambda}
use Rattle.lf_unification.specs.Unifiers.{Store}
use Rattle.tw_metas.specs.State.{State}
use Rattle.tw_putting.specs.Stores.{PutsDeep, PutsDeepSpine, PutsDeepType, store_of}

-- a deep result stands in its derivation
pub result_deep : (s : Store) (limit : ℕ) {k : ℕ} {M M' : Term} (d : PutsIn s.metavariables s.bindings k M M') → limit < depth M' → PutHasDeep s limit d
result_deep s limit (put_under_lambda d) h = inl h
result_deep s limit (put_at_rigid x r d) h = inl h
result_deep s limit (put_at_unbound u d) h = inl h
result_deep s limit (put_at_bound b i d r e) h = inr (inr (result_deep s limit e h))

pub deep_term : (s : State) (k : ℕ) (M : Term) → PutsDeep s k M → IsDeepTerm (store_of s) depth_limit k M
deep_term s k M (M', d, h) = inr (M', d, result_deep (store_of s) depth_limit d h)

deep_argument : (s : Store) (limit : ℕ) {k : ℕ} {S S' : Spine} (d : PutsInSpine s.metavariables s.bindings k S S') → limit < spine_depth S' → IsDeepSpine s limit k S
deep_argument s limit put_nowhere h = absurd (omega arith)
deep_argument s limit (put_in_argument {k = k} {M = M} {M' = M'} {S = S} {S' = S'} d e) h = go (below_max limit (depth M') (spine_depth S') h) (deep_argument s limit e)
  where
    go : (limit < depth M') ⊎ (limit < spine_depth S') → (limit < spine_depth S' → IsDeepSpine s limit k S) → IsDeepTerm s limit k M ⊎ IsDeepSpine s limit k S
    go (inl l) f = inl (inr (M', d, result_deep s limit d l))
    go (inr l) f = inr (f l)

pub deep_spine : (s : State) (k : ℕ) (S : Spine) → PutsDeepSpine s k S → IsDeepSpine (store_of s) depth_limit k S
deep_spine s k S (S', d, h) = deep_argument (store_of s) depth_limit d h

pub deep_type : (s : State) (k : ℕ) (A : LfType) → PutsDeepType s k A → IsDeepType (store_of s) depth_limit k A
deep_type s k (pi A B) (A', d, h) = inl (inr (A', d, h))
deep_type s k (atom a S) (A', d, h) = inl (inr (A', d, h))
