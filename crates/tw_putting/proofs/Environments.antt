-- The environment of a value, level by level.
use Rattle.std.proofs.Common.{◌≡◌, ℕ, Bor, rules}
use Rattle.lf.specs.Syntax.{skeleton}
use Rattle.lf_closures.specs.Environments as pure
use Rattle.lf_closures.proofs.Values.{lookups}
use Rattle.tw_terms.specs.OpenView.{open_term_of, open_type_of}
use Rattle.tw_terms.specs.declared.open_terms.Open.{Open}
use Rattle.tw_terms.specs.declared.open_terms.OpenTy.{OpenTy}
use Rattle.tw_terms.proofs.OpenArgs.{open_types}
use Rattle.tw_putting.specs.View.{environment_of}
use Rattle.tw_putting.specs.declared.environment.Environment.{Environment, Outside, Under, Moved, Extended, the_lemmas}

pub environment_of-Outside : environment_of Outside ≡ pure.outside
unfolding environment_of
environment_of-Outside = search (rules, the_lemmas)

pub environment_of-Under : (n : ℕ) (e : Bor Environment) → environment_of (Under n e) ≡ pure.under n (environment_of e.now)
unfolding environment_of
environment_of-Under n e = search (rules, the_lemmas)

pub environment_of-Moved : (n : ℕ) (e : Bor Environment) → environment_of (Moved n e) ≡ pure.moved n (environment_of e.now)
unfolding environment_of
environment_of-Moved n e = search (rules, the_lemmas)

pub environment_of-Extended : (a : Bor OpenTy) (N : Bor Open) (c e : Bor Environment) → environment_of (Extended a N c e) ≡ pure.extended (skeleton (open_type_of a.now)) (open_term_of N.now) (environment_of c.now) (environment_of e.now)
unfolding environment_of
environment_of-Extended a N c e = search (rules, the_lemmas)

pub ruleset environments = (open_types, environment_of-Outside, environment_of-Under, environment_of-Moved, environment_of-Extended, lookups, the_lemmas)
