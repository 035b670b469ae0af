use Rattle.std.proofs.Common.{◌+◌, ◌++◌, ◌∷◌, [], length, ap, refl, reverse, ◌∙◌}
use Rattle.lf_unification.specs.Search.{begin_search}
use Rattle.tw_search.specs.Chains.{frames_of}
use Rattle.tw_terms.specs.View.{type_of}
use Rattle.tw_search.proofs.Beginning.{root_stands}
use Rattle.tw_search.proofs.search.Search.new.Goals as goal

pub returns-clause-stands : goal.returns-clause-stands
returns-clause-stands c = λ es ok g t. record {
  context = g;
  goal = t;
  variables = c.len-variables.ensures;
  asked = c.in_ok-asked.ensures;
  run = begin_search;
  at = (
    root_stands es ok c.args.goal.now.variables (type_of c.args.goal.now.goal) g t c.declare_root.new.store c.in_ok-hole.ensures.root c.len-variables.result c.in_ok-root.root (frames_of c.push.new.self) _ _ c.len-variables.ensures
        (c.in_ok-root.ensures.frames ∙ ap (λ xs. xs ++ record { hole = c.in_ok-hole.hole; next = 0 } ∷ []) c.new-frames.ensures) c.in_ok-hole.ensures.hole refl (c.in_ok-root.ensures.list ∙ ap (λ xs. length xs + 1) c.new-frames.ensures) (ap reverse c.new-choices.ensures.items),
    c.new.ensures.known c.declare_root.new.store.now,
  );
}
