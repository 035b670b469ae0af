-- Stories with one change more, or one less.
use Rattle.std.proofs.Common.{◌≡◌, ℕ, zero, suc, List, [], ◌∷◌, ◌++◌, length, reverse, drop, refl, sym, ap, subst, ◌∙◌, ◌≤◌, ◌-◌, ◌+◌, arith}
use Rattle.lf.specs.Syntax.{Term}
use Rattle.tw_metas.specs.State.{State, Story, changed, states, with_value, IsUnbound}
use Rattle.tw_metas.specs.Undoing.{undone, states_before, story_of}
use Rattle.tw_metas.specs.declared.change.Change.{Change}
use Rattle.tw_metas.specs.declared.change.Change.TheVariants.{Bound}
use Rattle.tw_metas.proofs.Lists.{set_and_freed}
use Rattle.tw_metas.proofs.Room.{newest_change, count_changes}
use Rattle.tw_metas.proofs.States.{made}

abbrev told : State → State → List Change → Story
told s' s cs = record { now = s'; before = s ∷ states_before cs s }

pub next_story : (s s' : State) (ts us : List Change) (c : Change) → us ≡ ts ++ c ∷ [] → undone c s' ≡ s → story_of s' (reverse us) ≡ changed (story_of s (reverse ts)) s'
next_story s s' ts us c e u = ap (λ cs. story_of s' cs) (newest_change ts us c e) ∙ ap (λ x. told s' x (reverse ts)) u

-- what a binding is noted by, and what it changes, is one change of the store
pub bind_story : (s s' : State) (ts us : List Change) (st : Story) (m : ℕ) (N : Term) → us ≡ ts ++ Bound m ∷ [] → s' ≡ with_value s m N → story_of s (reverse ts) ≡ st → IsUnbound st.now m → story_of s' (reverse us) ≡ changed st (with_value st.now m N)
bind_story s s' ts us st m N e is view free =
    let here : IsUnbound s m = subst (λ (x : Story). IsUnbound x.now m) (sym view) free in
    let again : undone (Bound m) (with_value s m N) ≡ s = ap (λ vs. made s.declared vs s.bound s.equations) (set_and_freed s.values m N here) in
    next_story s s' ts us (Bound m) e (ap (λ x. undone (Bound m) x) is ∙ again)
    ∙ ap (λ x. changed (story_of s (reverse ts)) x) is
    ∙ ap (λ (x : Story). changed x (with_value x.now m N)) view

pub count_told : (s : State) (ts : List Change) (st : Story) → story_of s (reverse ts) ≡ st → length st.before ≡ length ts
count_told s ts st view = ap (λ (x : Story). length x.before) (sym view) ∙ count_changes ts s

drop_more : {A : Type 0} (k : ℕ) (xs : List A) → drop 1 (drop k xs) ≡ drop (suc k) xs
drop_more zero xs = refl
drop_more (suc k) [] = refl
drop_more (suc k) (x ∷ xs) = drop_more k xs

pub one_less : (old new : Story) → states new ≡ drop 1 (states old) → length new.before + 1 ≡ length old.before
one_less old new e = let h : suc (length new.before) ≡ length old.before = ap length e in omega (arith, h)

pub back_further : (first old new : Story) → states old ≡ drop (length first.before - length old.before) (states first) → length old.before ≤ length first.before → states new ≡ drop 1 (states old) → states new ≡ drop (length first.before - length new.before) (states first)
back_further first old new e le s =
    let less = one_less old new s in
    let k : suc (length first.before - length old.before) ≡ length first.before - length new.before = omega (arith, less) in
    s ∙ ap (λ xs. drop 1 xs) e ∙ drop_more (length first.before - length old.before) (states first) ∙ ap (λ n. drop n (states first)) k

pub not_yet : (first : Story) → states first ≡ drop (length first.before - length first.before) (states first)
not_yet first = let z : zero ≡ length first.before - length first.before = omega arith in ap (λ n. drop n (states first)) z
