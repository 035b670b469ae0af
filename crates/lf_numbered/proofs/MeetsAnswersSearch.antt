-- The places of a pattern beside a case are finitely many, so one is found at which the store isn't refuted, or it is refuted at each.
use Rattle.std.proofs.Common.{◌≡◌, ℕ, zero, suc, ◌<◌, ◌≤◌, ◌⊎◌, length, inl, inr, refl, sym, ◌∙◌, subst, arith}
use Rattle.lf.specs.Syntax.{Kind}
use Rattle.lf.specs.Substitution.{Image}
use Rattle.lf.specs.Typing.{Signature}
use Rattle.lf_unification.specs.Steps.{CanRefute}
use Rattle.lf_cases.specs.Pattern.{Pattern}
use Rattle.lf_numbered.specs.MeetsAnswers.{IsMet, IsMetByNumber, IsPlace, IsRefutedByNumber, PlacesAreSearched, PlacesRefuteEach, StayBeyond, entries_at}
use Rattle.lf_numbered.specs.NumberedCallsStores.{Identifies, IsPutBeside, identified, meet_store_by_number}
use Rattle.lf_numbered.specs.NumberedCase.{NumberedCase}
use Rattle.lf_numbered.proofs.MeetsAnswersCut.{below_or_beyond, cut, cut_below, cut_beside, cut_beyond, cut_identifies, cut_store, extend, extend_at, extend_other}
use native.Mathlib.Decide.{ℕ_discrete}
use Rattle.lf_numbered.proofs.MeetsAnswersDecided.{identifies_decided}
use Rattle.lf_numbered.proofs.MeetsAnswersPlaces.{search}

-- a function that is below its argument, and leaves what is from m on
abbrev Low : ℕ → (ℕ → ℕ) → Type 0
Low m f = ((k : ℕ) → f k ≤ k) × ((k : ℕ) → m ≤ k → f k ≡ k)

low_extended : (m : ℕ) (f : ℕ → ℕ) (v : ℕ) → Low m f → v ≤ m → Low (suc m) (extend f m v)
low_extended m f v (o, s) l = ((λ k. below k (ℕ_discrete k m)), λ k h. stays k h (ℕ_discrete k m))
  where
    below : (k : ℕ) → Dec (k ≡ m) → extend f m v k ≤ k
    below k (yes e) = subst (λ j. j ≤ k) (sym (extend_at f m v k e)) (subst (λ j. v ≤ j) (sym e) l)
    below k (no n) = subst (λ j. j ≤ k) (sym (extend_other f m v k n)) (o k)

    not_both : (k : ℕ) → suc m ≤ k → k ≡ m → ⊥
    not_both k h e = omega (arith, h, e)

    less : (k : ℕ) → suc m ≤ k → m ≤ k
    less k h = omega (arith, h)

    stays : (k : ℕ) → suc m ≤ k → Dec (k ≡ m) → extend f m v k ≡ k
    stays k h (yes e) = absurd (not_both k h e)
    stays k h (no n) = extend_other f m v k n ∙ s k (less k h)

-- all such functions have R, or one has S
search_numbers : (m : ℕ) (R S : (ℕ → ℕ) → Type 0) → ((f : ℕ → ℕ) → Low m f → R f ⊎ S f) → ((π : ℕ → ℕ) → ((k : ℕ) → π k ≤ k) → R (cut π m)) ⊎ ((f : ℕ → ℕ) × S f)
search_numbers zero R S h = by (h (λ k. k) ((λ k. itself k), λ k l. refl))
  where
    itself : (k : ℕ) → k ≤ k
    itself k = omega arith

    by : R (λ k. k) ⊎ S (λ k. k) → ((π : ℕ → ℕ) → ((k : ℕ) → π k ≤ k) → R (cut π zero)) ⊎ ((f : ℕ → ℕ) × S f)
    by (inl r) = inl (λ π l. r)
    by (inr s) = inr ((λ k. k), s)
search_numbers (suc m) R S h = by (search_numbers m (λ f. (v : ℕ) → v ≤ m → R (extend f m v)) (λ f. (v : ℕ) × S (extend f m v)) (λ f low. values f low m (itself m)))
  where
    itself : (k : ℕ) → k ≤ k
    itself k = omega arith

    one : (f : ℕ → ℕ) → R (extend f m zero) ⊎ S (extend f m zero) → ((v : ℕ) → v ≤ zero → R (extend f m v)) ⊎ ((v : ℕ) × S (extend f m v))
    one f (inl r) = inl (λ v l. subst (λ j. R (extend f m j)) (sym (none v l)) r)
      where
        none : (v : ℕ) → v ≤ zero → v ≡ zero
        none v l = omega (arith, l)
    one f (inr s) = inr (zero, s)

    more : (f : ℕ → ℕ) (n : ℕ) → ((v : ℕ) → v ≤ n → R (extend f m v)) ⊎ ((v : ℕ) × S (extend f m v)) → R (extend f m (suc n)) ⊎ S (extend f m (suc n)) → ((v : ℕ) → v ≤ suc n → R (extend f m v)) ⊎ ((v : ℕ) × S (extend f m v))
    more f n (inr s) x = inr s
    more f n (inl r) (inr s) = inr (suc n, s)
    more f n (inl r) (inl q) = inl (λ v l. at v l (ℕ_discrete v (suc n)))
      where
        last : (v : ℕ) → v ≤ suc n → (v ≡ suc n → ⊥) → v ≤ n
        last v l e = omega (arith, l, e)

        at : (v : ℕ) → v ≤ suc n → Dec (v ≡ suc n) → R (extend f m v)
        at v l (yes e) = subst (λ j. R (extend f m j)) (sym e) q
        at v l (no x) = r v (last v l x)

    less : (n : ℕ) → suc n ≤ m → n ≤ m
    less n l = omega (arith, l)

    values : (f : ℕ → ℕ) → Low m f → (n : ℕ) → n ≤ m → ((v : ℕ) → v ≤ n → R (extend f m v)) ⊎ ((v : ℕ) × S (extend f m v))
    values f low zero l = one f (h (extend f m zero) (low_extended m f zero low l))
    values f low (suc n) l = more f n (values f low n (less n l)) (h (extend f m (suc n)) (low_extended m f (suc n) low l))

    by : ((π : ℕ → ℕ) → ((k : ℕ) → π k ≤ k) → (v : ℕ) → v ≤ m → R (extend (cut π m) m v)) ⊎ ((f : ℕ → ℕ) × ((v : ℕ) × S (extend f m v))) → ((π : ℕ → ℕ) → ((k : ℕ) → π k ≤ k) → R (cut π (suc m))) ⊎ ((f : ℕ → ℕ) × S f)
    by (inl r) = inl (λ π l. r π l (π m) (l m))
    by (inr (f, (v, s))) = inr (extend f m v, s)

module _ (Σ : Signature) (first : ℕ) (C : NumberedCase) (p : Pattern) (K : Kind) where
  abbrev Refuted : (ℕ → ℕ) → NumberedCase → (ℕ → Image) → Type 0
  Refuted π J φ = CanRefute (entries_at Σ first J) (meet_store_by_number π J p φ K)

  abbrev Met : (ℕ → ℕ) → NumberedCase → (ℕ → Image) → Type 0
  Met π J φ = IsMet (entries_at Σ first J) (meet_store_by_number π J p φ K)

  abbrev AllRefuted : (ℕ → ℕ) → Type 0
  AllRefuted f = Identifies C f → (J : NumberedCase) (φ : ℕ → Image) → IsPutBeside first (identified first f C) f p.at_first p.clause p.origin J φ → Refuted f J φ

  abbrev OneMet : (ℕ → ℕ) → Type 0
  OneMet f = (J : NumberedCase) × (φ : ℕ → Image) × IsPlace first C p f J φ × Met f J φ

  module _ (h : (π : ℕ → ℕ) (J : NumberedCase) (φ : ℕ → Image) → IsPlace first C p π J φ → StayBeyond C π → Refuted π J φ ⊎ Met π J φ) where
    at_numbers : (f : ℕ → ℕ) → Low (length C.blocks) f → AllRefuted f ⊎ OneMet f
    at_numbers f (oldest, stays) = by (identifies_decided C f)
      where
        answer : Identifies C f → ((J : NumberedCase) (φ : ℕ → Image) → IsPutBeside first (identified first f C) f p.at_first p.clause p.origin J φ → Refuted f J φ) ⊎ ((J : NumberedCase) × (φ : ℕ → Image) × IsPutBeside first (identified first f C) f p.at_first p.clause p.origin J φ × Met f J φ) → AllRefuted f ⊎ OneMet f
        answer i (inl r) = inl (λ j. r)
        answer i (inr (J, φ, x, m)) = inr (J, φ, record { identifies = i; oldest = oldest; beside = x }, m)

        by : Dec (Identifies C f) → AllRefuted f ⊎ OneMet f
        by (no n) = inl (λ i. absurd (n i))
        by (yes i) = answer i (search first (identified first f C) f p.at_first (Refuted f) (Met f) p.clause p.origin (λ J φ x. h f J φ (record { identifies = i; oldest = oldest; beside = x }) stays))

    searched : IsRefutedByNumber Σ first C p K ⊎ IsMetByNumber Σ first C p K
    searched = by (search_numbers (length C.blocks) AllRefuted OneMet at_numbers)
      where
        by : ((π : ℕ → ℕ) → ((k : ℕ) → π k ≤ k) → AllRefuted (cut π (length C.blocks))) ⊎ ((f : ℕ → ℕ) × OneMet f) → IsRefutedByNumber Σ first C p K ⊎ IsMetByNumber Σ first C p K
        by (inl r) = inl (λ π J φ x. subst (CanRefute (entries_at Σ first J)) (cut_store first C π x.identifies p J φ K x.beside) (r π x.oldest (cut_identifies first C π x.identifies) J φ (cut_beside first C π x.identifies p.at_first p.clause p.origin J φ x.beside)))
        by (inr (f, (J, φ, x, m))) = inr (record { numbers = f; case = J; outer = φ; place = x; met = m })

pub places_are_searched : PlacesAreSearched
places_are_searched Σ first C p K h = searched Σ first C p K h

-- The places to be looked at are all.
pub places_refute_each : PlacesRefuteEach
places_refute_each Σ first C p K h π J φ x = subst (CanRefute (entries_at Σ first J)) (cut_store first C π x.identifies p J φ K x.beside) (h (cut π (length C.blocks)) J φ (record { identifies = cut_identifies first C π x.identifies; oldest = λ k. lower k (below_or_beyond (length C.blocks) k); beside = cut_beside first C π x.identifies p.at_first p.clause p.origin J φ x.beside }) (λ k l. cut_beyond π (length C.blocks) k l))
  where
    same : (j k : ℕ) → j ≡ k → j ≤ k
    same j k e = omega (arith, e)

    lower : (k : ℕ) → (k < length C.blocks) ⊎ (length C.blocks ≤ k) → cut π (length C.blocks) k ≤ k
    lower k (inl l) = subst (λ j. j ≤ k) (sym (cut_below π (length C.blocks) k l)) (x.oldest k)
    lower k (inr l) = same (cut π (length C.blocks) k) k (cut_beyond π (length C.blocks) k l)
