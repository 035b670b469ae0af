-- The environment of a value, level by level.
use Rattle.std.proofs.Common.{◌≡◌, ℕ, Bor, rules}
use Rattle.lf_closures.specs.Environments as pure
use Rattle.tw_terms.specs.View.{term_of, skeleton_of}
use Rattle.tw_terms.specs.declared.canonical.Term.{Term}
use Rattle.tw_terms.specs.declared.canonical.Skeleton.{Skeleton}
use Rattle.tw_terms.proofs.Args.{types, skeletons}
use Rattle.lf_closures.proofs.Values.{lookups}
use Rattle.tw_hered.specs.View.{environment_of}
use Rattle.tw_hered.specs.declared.environment.Environment.{Environment, Outside, Under, Moved, Extended, the_lemmas}

pub environment_of-Outside : environment_of Outside ≡ pure.outside
unfolding environment_of
environment_of-Outside = search (rules, the_lemmas)

pub environment_of-Under : (n : ℕ) (e : Bor Environment) → environment_of (Under n e) ≡ pure.under n (environment_of e.now)
unfolding environment_of
environment_of-Under n e = search (rules, the_lemmas)

pub environment_of-Moved : (n : ℕ) (e : Bor Environment) → environment_of (Moved n e) ≡ pure.moved n (environment_of e.now)
unfolding environment_of
environment_of-Moved n e = search (rules, the_lemmas)

pub environment_of-Extended : (a : Bor Skeleton) (N : Bor Term) (c e : Bor Environment) → environment_of (Extended a N c e) ≡ pure.extended (skeleton_of a.now) (term_of N.now) (environment_of c.now) (environment_of e.now)
unfolding environment_of
environment_of-Extended a N c e = search (rules, the_lemmas)

pub ruleset environments = (types, skeletons, environment_of-Outside, environment_of-Under, environment_of-Moved, environment_of-Extended, lookups, the_lemmas)
