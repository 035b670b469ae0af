use Rattle.std.proofs.Common.{List, ℕ, map, reverse, take}
use Rattle.lf_unification.specs.Lists.{followed}
use Rattle.tw_terms.specs.declared.canonical.MetaId.{MetaId}
use Rattle.tw_search.specs.Chains.{GoalsAre, IsGrown, frames_of}
use Rattle.tw_search.proofs.frames.Frames.push_all.Given as goal

-- the first holes so far are in front
abbrev pub invariant-loop-place : goal.invariant-loop-place
invariant-loop-place l = record {
  grown : IsGrown (frames_of l.fn.self) (frames_of l.self);
  list : (gs : List ℕ) → GoalsAre (frames_of l.fn.self) l.fn.next gs → GoalsAre (frames_of l.self) l.list (followed (reverse (map (λ (m : MetaId). m.0) (take l.place l.holes))) gs);
}
