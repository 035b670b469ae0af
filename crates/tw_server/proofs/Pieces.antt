-- What is written and read in pieces.
use Rattle.std.proofs.Common.{◌≡◌, ◌≢◌, ℕ, ◌+◌, ◌-◌, ◌<◌, ◌≤◌, List, [], ◌∷◌, ◌++◌, length, take, drop, refl, sym, ap, ◌∙◌, arith, length-drop, length-take, take-add, take_all, subst}
use Rattle.std.specs.declared.option.Option.{Option}
use Rattle.std.proofs.Common.{append_assoc, Bool, Ok, Err}
use Rattle.std.specs.declared.result.Result.{Result}
use Rattle.tw_server.specs.Written.{GainsFront, GainsLines, GainsReply}
use Rattle.tw_ports.specs.Ports.{Gains}
use Rattle.tw_ports.proofs.Gained.{Gains-trans}

-- a write of what is behind at took n bytes
pub wrote_more : (a b c : Option (List ℕ)) (bytes : List ℕ) (at n : ℕ) → n ≤ length (take (length bytes - at) (drop at bytes)) → Gains a b (take at bytes) → Gains b c (take n (take (length bytes - at) (drop at bytes))) → Gains a c (take (at + n) bytes)
wrote_more a b c bytes at n h p q =
    let whole : take (length bytes - at) (drop at bytes) ≡ drop at bytes = take_all (length bytes - at) (drop at bytes) (simp length-drop (omega arith)) in
    subst (Gains a c) (sym (take-add at n bytes)) (Gains-trans a b c _ _ p (subst (λ (xs : List ℕ). Gains b c (take n xs)) whole q))

pub length_between : (xs : List ℕ) (a b : ℕ) → b ≤ length xs → length (drop a (take b xs)) ≡ b - a
length_between xs a b h = simp (length-drop, length-take) (omega arith)

pub append_some : (xs ys : List ℕ) → xs ≢ [] → xs ++ ys ≢ []
append_some [] ys h = absurd (h refl)
append_some (x ∷ xs) ys h = λ e. cc

-- the first part of what is written is the first part of more
pub front_first : (a b : Option (List ℕ)) (xs ys : List ℕ) → GainsFront a b xs → GainsFront a b (xs ++ ys)
front_first a b xs ys h = (h.0, h.1 ++ ys, ap (λ (l : List ℕ). l ++ ys) h.2 ∙ append_assoc h.0 h.1 ys, h.3, append_some h.1 ys h.4)

pub reply_second : {E : Type 0} (a b c : Option (List ℕ)) (xs ys : List ℕ) (r : Result (Unit {0}) E) → Gains a b xs → GainsReply b c ys r → GainsReply a c (xs ++ ys) r
reply_second a b c xs ys (Ok done) p q = Gains-trans a b c xs ys p q
reply_second a b c xs ys (Err e) p q = (xs ++ q.0, q.1, ap (λ (l : List ℕ). xs ++ l) q.2 ∙ sym (append_assoc xs q.0 q.1), Gains-trans a b c xs q.0 p q.3, q.4)

-- the same of lines, with whether all went well
pub lines_second : {E : Type 0} (a b c : Option (List ℕ)) (xs ys : List ℕ) (well : Bool) (r : Result Bool E) → Gains a b xs → GainsLines b c ys well r → GainsLines a c (xs ++ ys) well r
lines_second a b c xs ys well (Ok told) p q = (q.0, Gains-trans a b c xs ys p q.1)
lines_second {E = E} a b c xs ys well (Err e) p q = reply_second {E = E} a b c xs ys (Err e) p q

-- something lies behind a place in a list
pub drop_some : (n : ℕ) (xs : List ℕ) → n < length xs → drop n xs ≢ []
drop_some n xs h e = omega (arith, length-drop n xs, ap length e)

pub append_three : (a b c d : List ℕ) → a ++ (b ++ (c ++ d)) ≡ ((a ++ b) ++ c) ++ d
append_three a b c d = sym (append_assoc (a ++ b) c d ∙ append_assoc a b (c ++ d))
