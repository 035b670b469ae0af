-- What waits for a canonical form, and what comes of it: the outermost first.
use Rattle.std.specs.Prelude.{ℕ, ◌≤◌, ◌-◌, length, List, [], ◌∷◌}
use Rattle.lf.specs.Syntax as lf
use Rattle.lf.specs.Depth.{depth, spine_depth}
use Rattle.lf.specs.Eta.{append}
use Rattle.lf_closures.specs.Environments.{value_in, spine_value_in}
use Rattle.lf_closures.specs.Typing.{ClosureFits, SpineClosureFits}
use Rattle.tw_terms.specs.View.{head_of, term_of, args_of}
use Rattle.tw_hered.specs.View.{environment_of}
use Rattle.tw_hered.specs.declared.waiting.Waiting.{Waiting}
use Rattle.tw_hered.specs.declared.waiting.Next.{Next}

-- what one makes of the term that it waits for
abbrev pub with_term : Waiting → lf.Term → lf.Term
with_term Waiting.Lambda M = lf.lambda M
with_term (Waiting.Argument h made rest e) M = lf.root (head_of h) (append (args_of made.items) (lf.app M (spine_value_in (environment_of e.now) (args_of rest.now))))

-- what all make of it
abbrev pub whole : List Waiting → lf.Term → lf.Term
whole [] M = M
whole (w ∷ ws) M = with_term w (whole ws M)

-- skeletons type the arguments that are left
abbrev pub WaitingFits : Waiting → Type 0
WaitingFits Waiting.Lambda = Unit {0}
WaitingFits (Waiting.Argument h made rest e) = SpineClosureFits (environment_of e.now) (args_of rest.now)

abbrev pub AllFit : List Waiting → Type 0
AllFit [] = Unit {0}
AllFit (w ∷ ws) = WaitingFits w × AllFit ws

-- no argument that is made is deeper than n
abbrev pub IsShallow : ℕ → Waiting → Type 0
IsShallow n Waiting.Lambda = Unit {0}
IsShallow n (Waiting.Argument h made rest e) = spine_depth (args_of made.items) ≤ n

-- nor do they make the whole deeper than n
abbrev pub AllShallow : ℕ → List Waiting → Type 0
AllShallow n [] = Unit {0}
AllShallow n (w ∷ ws) = IsShallow (n - 1) w × AllShallow (n - 1) ws

-- the whole, where the walk goes on so
abbrev pub value_of_next : List Waiting → Next → lf.Term
value_of_next ws (Next.Going x) = whole ws (value_in (environment_of x.environment.now) (term_of x.body.now))
value_of_next ws (Next.Made M) = term_of M

-- skeletons type the next term
abbrev pub NextFits : Next → Type 0
NextFits (Next.Going x) = ClosureFits (environment_of x.environment.now) (term_of x.body.now)
NextFits (Next.Made M) = Unit {0}

-- the whole, or what is made of it, is no deeper than n
abbrev pub NextIsShallow : ℕ → List Waiting → Next → Type 0
NextIsShallow n ws (Next.Going x) = (length ws ≤ n) × AllShallow n ws
NextIsShallow n ws (Next.Made M) = depth (term_of M) ≤ n
