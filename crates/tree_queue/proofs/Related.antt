-- A relation between cells holds of equal cells.
use Rattle.std.proofs.Common.{◌≡◌, ℕ}

pub moved : (R : ℕ → ℕ → Type 0) {a b a' b' : ℕ} → a' ≡ a → b' ≡ b → R a b → R a' b'
moved R p q r = rw (p, q) r
