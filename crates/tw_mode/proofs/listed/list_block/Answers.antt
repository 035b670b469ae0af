use Rattle.std.proofs.Common.{◌≡◌, ◌++◌, ◌-◌, ◌∙◌, ap, arith, drop, suc}
use Rattle.std.proofs.lemmas.List.{append_assoc}
use Rattle.lf_checks.specs.Clauses.{entry_clauses}
use Rattle.tw_clause.specs.View.{block_of}
use Rattle.tw_mode.specs.Listing.{entry_alone, listed_clauses}
use Rattle.tw_mode.proofs.Listing.{entries_next}
use Rattle.tw_mode.proofs.listed.list_block.Goals as goal

pub loop-newer-preserved : goal.loop-newer-preserved
loop-newer-preserved c =
    let B = block_of c.args.block.now in
    let a = c.args.family.0 in
    let n = c.loop-newer.newer - 1 in
    let q : c.loop-newer.newer ≡ suc n = omega arith in
    record {
      so_far = λ es W w.
          c.in_ok-list_entry.ensures es W w
          ∙ ap (λ xs. xs ++ entry_alone B a n) (c.loop-newer.invariant.so_far es W w)
          ∙ append_assoc (listed_clauses es W c.args.listed.now.items) (entry_clauses B a (drop c.loop-newer.newer B.entries)) (entry_alone B a n)
          ∙ ap (λ xs. listed_clauses es W c.args.listed.now.items ++ xs) (ap (λ k. entry_clauses B a (drop k B.entries) ++ entry_alone B a n) q ∙ entries_next B a n (omega arith));
      within = omega arith;
    }
