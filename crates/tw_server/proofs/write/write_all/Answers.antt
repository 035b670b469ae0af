use Rattle.std.proofs.Common.{◌∙◌, ap, true, ◌≤◌, ◌-◌, length, take, drop, arith, sym, take-append-drop, append-nil, length-drop, length-take, subst}
use Rattle.tw_ports.specs.Ports.{Gains, count_after}
use Rattle.tw_ports.proofs.Gained.{Gains-trans}
use Rattle.tw_server.proofs.Pieces.{wrote_more, drop_some}
use Rattle.tw_server.proofs.write.write_all.Goals as goal

pub loop-at-preserved : goal.loop-at-preserved
loop-at-preserved g c = record {
  within = let h : c.in-Took.count ≤ length (take (length c.args.bytes.now - c.loop-at.at) (drop c.loop-at.at c.args.bytes.now)) = c.in-Took.ensures.bytes.1 in omega (arith, simp (length-take, length-drop) at h);
  gained = wrote_more _ _ _ c.args.bytes.now c.loop-at.at c.in-Took.count c.in-Took.ensures.bytes.1 c.loop-at.invariant.gained c.in-Took.ensures.bytes.2;
  counts = c.in-Took.ensures.counts ∙ c.loop-at.invariant.counts;
}

pub returns-in-Failed-clause-bytes : goal.returns-in-Failed-clause-bytes
returns-in-Failed-clause-bytes g c = (
  take c.loop-at.at c.args.bytes.now,
  drop c.loop-at.at c.args.bytes.now,
  sym (take-append-drop c.loop-at.at c.args.bytes.now),
  subst (Gains _ _) (append-nil _) (Gains-trans _ _ _ _ _ c.loop-at.invariant.gained c.in-Failed.ensures.bytes),
  drop_some _ _ c.loop-at-test.true,
)

pub returns-in-Failed-clause-counts : goal.returns-in-Failed-clause-counts
returns-in-Failed-clause-counts g c = c.in-Failed.ensures.counts ∙ ap (count_after true) c.loop-at.invariant.counts
