use Rattle.std.proofs.Common.{◌+◌, take, arith}
use Rattle.std.proofs.lemmas.List.{take_more}
use Rattle.tw_search.specs.Chains.{frames_of}
use Rattle.tw_search.proofs.Chaining.{goals_pushed, grown_by_one}
use Rattle.tw_search.proofs.frames.Frames.push_all.Goals as goal

pub loop-place-preserved : goal.loop-place-preserved
loop-place-preserved c = record {
  grown = grown_by_one (frames_of c.args.self.now) (frames_of c.loop-place.self) (frames_of c.push.new.self) _ c.in_ok-list.ensures.frames c.loop-place.invariant.grown;
  list = goals_pushed (frames_of c.args.self.now) (frames_of c.loop-place.self) (frames_of c.push.new.self) _ c.args.next c.in_ok-list.list (take c.loop-place.place c.args.holes.now) (take (c.loop-place.place + 1) c.args.holes.now)
      c.in_ok-list.ensures.frames c.in_ok-list.ensures.list (take_more c.args.holes.now c.loop-place.place _ (omega arith)) c.loop-place.invariant.list;
}
