use Rattle.std.specs.Prelude.{◌≡◌, zero, ◌<◌, length}
use Rattle.std.specs.Option.{MatchOption}
use Rattle.tw_unify.specs.Sides.{AllLeft, BlamesSome}
use Rattle.tw_unify.proofs.Results.{match_both}
use Rattle.tw_unify.proofs.Watching.{from_nought}
use Rattle.tw_unify.proofs.postponed.find_awake.Goals as goal

pub returns-in-None-clause-found : goal.returns-in-None-clause-found
returns-in-None-clause-found c =
    let s = c.args.store.now.now in
    match_both c.find_from-in-None.result (λ r. MatchOption r (zero ≡ zero → AllLeft s s.equations) (λ at. at < length s.equations)) (λ r. MatchOption r (AllLeft s s.equations) (λ at. at < length s.equations)) (λ f. BlamesSome f s s.equations) (λ f. BlamesSome f s s.equations)
    (λ r. from_nought r (AllLeft s s.equations) (λ at. at < length s.equations)) (λ f b. b) c.find_from-in-None.ensures.found
