-- What a charge kind computes with, and its laws. Stands on nothing.
use Rattle.std.specs.Prelude.{◌≡◌, Bool, true, false}

pub record Kind (C : Type 0) : Type 0 where
  -- what a charge means, as the charge of that meaning that holds no excess
  pub meaning : C → C
  -- the charge called nothing
  pub nothing : C
  -- the first charge with the second joined to it
  pub join : C → C → C
  -- whether the first charge is no more than the second
  pub no_more : C → C → Bool

-- what charges mean is all that counts
pub record MeaningDecides {C : Type 0} (k : Kind C) : Type 0 where
  -- charges that mean the same are each no more than the other
  pub alike : (a b : C) → k.meaning a ≡ k.meaning b → k.no_more a b ≡ true
  -- comparing depends on meanings alone
  pub comparing : (a a' b b' : C) → k.meaning a ≡ k.meaning a' → k.meaning b ≡ k.meaning b' → k.no_more a b ≡ k.no_more a' b'
  -- joining depends on meanings alone
  pub joining : (a a' b b' : C) → k.meaning a ≡ k.meaning a' → k.meaning b ≡ k.meaning b' → k.meaning (k.join a b) ≡ k.meaning (k.join a' b')

-- (folded, so that a search for a proof does not try its equations everywhere)
unfoldable pub ByMeaning : {C : Type 0} → Kind C → Type 0
ByMeaning k = MeaningDecides k

pub record Laws {C : Type 0} (k : Kind C) : Type 0 where
  -- of two charges, one is no more than the other
  pub total : (a b : C) → k.no_more a b ≡ false → k.no_more b a ≡ true
  -- if a is no more than b, and b no more than c, then a is no more than c
  pub transitive : (a b c : C) → k.no_more a b ≡ true → k.no_more b c ≡ true → k.no_more a c ≡ true
  -- two charges that are each no more than the other mean the same
  pub antisymmetric : (a b : C) → k.no_more a b ≡ true → k.no_more b a ≡ true → k.meaning a ≡ k.meaning b
  -- to join the same charge to two keeps their order
  pub monotone : (a b c : C) → k.no_more a b ≡ true → k.no_more (k.join a c) (k.join b c) ≡ true
  -- a charge is no more than itself joined with another
  pub rising : (a c : C) → k.no_more a (k.join a c) ≡ true
  -- what charges mean is all that counts
  pub by_meaning : ByMeaning k
