use Rattle.std.proofs.Common.{◌≡◌, ◌-◌, ◌≤◌, ◌^◌, length}
use Rattle.tw_print.specs.ShowEnv.{scene_of}
use Rattle.tw_search.specs.Standing.{tries_of}
use Rattle.tw_top.specs.Rounds.{Standing}
use Rattle.tw_top.specs.UnderWay.{Holds, WentOn, asked}
use Rattle.tw_top.proofs.asking.Asking.round.Given as goal

-- the lines so far, from each place where the search may have stood
abbrev pub invariant-loop-text : goal.invariant-loop-text
invariant-loop-text l = record {
  goal : asked l.self ≡ asked l.fn.self;
  within : tries_of l.self.search ≤ l.last;
  some : (s : Standing) × Holds l.env.sig.now l.self s;
  so_far : (s : Standing) → Holds l.env.sig.now l.fn.self s → WentOn l.env.sig.now (scene_of l.env) (asked l.fn.self) l.last s l.self l.text.items;
}

-- each step adds a line
abbrev pub decreases-loop-text : goal.decreases-loop-text
decreases-loop-text l = 2 ^ 64 - length l.text.items
