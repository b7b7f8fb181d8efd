-- What a buffer holds that was filled from a reader. Stands on the bytes that a reader has left, where they are known.
use Rattle.std.specs.Prelude.{◌≡◌, ℕ, ◌≤◌, List, length, take, drop}
use Rattle.std.specs.Io.KnownBytes.{Consumes}
use Rattle.std.specs.declared.io.Read.{Ghosts as ReadGhosts}

-- n bytes came from the source: they are at the front of the buffer, and the bytes behind are as they were
pub record Filled {R : Type 0} (r : ReadGhosts R) (source source' : R) (buffer buffer' : List ℕ) (n : ℕ) : Type 0 where
  pub fits : n ≤ length buffer
  pub came : Consumes (r.remaining source) (r.remaining source') (take n buffer')
  pub behind : drop n buffer' ≡ drop n buffer
