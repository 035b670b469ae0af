use Rattle.std.proofs.Common.{◌≤◌, ◌^◌, arith, ap, refl, length, ◌∙◌, subst}
use Rattle.std.proofs.KnownBytes.{Keeps-refl}
use Rattle.tw_server.specs.Feed.{Pending}
use Rattle.tw_server.proofs.Pieces.{length_between}
use Rattle.tw_server.proofs.feed.Feed.fill.Goals as goal

pub returns-then-self-clause-fills : goal.returns-then-self-clause-fills
returns-then-self-clause-fills g c =
    let f = c.self.inside in (
      Keeps-refl _,
      λ e. absurd (omega (arith, length_between f.piece.items f.at f.upto c.self.invariant.1, ap length (ap (λ (h : Pending). h.held) c.self.view_is ∙ e))),
      refl,
      subst (λ (h : Pending). h.seen ≤ 2 ^ 40) c.self.view_is c.self.invariant.3,
    )
