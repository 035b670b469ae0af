-- Laws of what a sink gains.
use Rattle.std.proofs.Common.{◌≡◌, ℕ, List, [], ◌++◌, None, Some, sym, ap, ◌∙◌, append_assoc, append-nil, subst}
use Rattle.std.specs.declared.option.Option.{Option}
use Rattle.tw_ports.specs.Ports.{Gains}

-- nothing is gained where nothing changes
pub Gains-nil : (a : Option (List ℕ)) → Gains a a []
Gains-nil None = tt
Gains-nil (Some x) = sym (append-nil x)

-- what was gained first, and then more
pub Gains-trans : (a b c : Option (List ℕ)) (bs cs : List ℕ) → Gains a b bs → Gains b c cs → Gains a c (bs ++ cs)
Gains-trans a b None bs cs p q = tt
Gains-trans a None (Some z) bs cs p q = absurd q
Gains-trans None (Some y) (Some z) bs cs p q = absurd p
Gains-trans (Some x) (Some y) (Some z) bs cs p q = q ∙ ap (λ l. l ++ cs) p ∙ append_assoc x bs cs

-- the same bytes, written otherwise
pub Gains-same : (a b : Option (List ℕ)) (bs cs : List ℕ) → bs ≡ cs → Gains a b bs → Gains a b cs
Gains-same a b bs cs e g = subst (Gains a b) e g
