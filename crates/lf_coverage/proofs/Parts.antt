-- The parts of what is equal are equal, and different forms aren't equal.
use Rattle.std.proofs.Common.{◌≡◌, ℕ, suc, arith}
use Rattle.std.specs.Prelude.{Some, None}
use Rattle.lf.specs.Syntax.{Term, lambda, Skeleton, base, arrow}
use Rattle.lf.specs.Substitution.{keep}

pub some_same : {A : Type 0} {a b : A} → Some a ≡ Some b → a ≡ b
some_same e = cc

pub none_some : {A : Type 0} {a : A} → None ≡ Some a → ⊥
none_some e = cc

pub suc_same : {m n : ℕ} → suc m ≡ suc n → m ≡ n
suc_same e = omega arith

pub keep_same : {m n : ℕ} → keep m ≡ keep n → m ≡ n
keep_same e = cc

pub lambda_same : {M N : Term} → lambda M ≡ lambda N → M ≡ N
lambda_same e = cc

pub first_same : {a b c d : Skeleton} → arrow a b ≡ arrow c d → a ≡ c
first_same e = cc

pub second_same : {a b c d : Skeleton} → arrow a b ≡ arrow c d → b ≡ d
second_same e = cc

pub no_arrow : {a b : Skeleton} {c : ℕ} → arrow a b ≡ base c → ⊥
no_arrow e = cc
