-- A buffer is filled by one read behind the other: what a read gave is behind what came before, and what is behind that is
-- as it was. By what a write to the part of a list from some place on does to its front and to its end.
use Rattle.std.proofs.Common.{◌≡◌, ℕ, ◌+◌, ◌-◌, ◌≤◌, List, [], ◌++◌, length, take, drop, Some, None, Option, sym, refl, ap, ◌∙◌, arith}
use Rattle.std.proofs.lemmas.List.{append_assoc, append-nil, length-take-le, length-drop, take-take, take_all, drop_all, drop_at, drop-drop}
use Rattle.std.proofs.lemmas.Slice.{take-put_mid}
use Rattle.std.proofs.Math.Seq.{take-append-add}
use borrow.Rule.Slice.PartMut.{put_mid, mid_of}
use Rattle.std.specs.Io.KnownBytes.{Consumes}
use Rattle.std.specs.declared.io.Read.{Ghosts as ReadGhosts}
use Rattle.sheet.specs.Filling.{Filled}

-- what two reads gave, one behind the other
Consumes-append : (o m n : Option (List ℕ)) (xs ys zs : List ℕ) → zs ≡ xs ++ ys → Consumes o m xs → Consumes m n ys
    → Consumes o n zs
Consumes-append None m n xs ys zs e p q = tt
Consumes-append (Some os) None n xs ys zs e p q = absurd p
Consumes-append (Some os) (Some ms) None xs ys zs e p q = absurd q
Consumes-append (Some os) (Some ms) (Some ns) xs ys zs e p q =
    p ∙ ap (λ l. xs ++ l) q ∙ sym (append_assoc xs ys ns) ∙ ap (λ l. l ++ ns) (sym e)

-- a list whose part from `at` on was written to, to its end
module _ (at : ℕ) (xs ys : List ℕ) (inside : at ≤ length xs) where
  abbrev over : List ℕ
  over = put_mid at (length xs - at) xs ys

  front : (n : ℕ) → n ≤ length ys → take (at + n) over ≡ take at xs ++ take n ys
  front n few =
      let whole = take-put_mid at (length xs - at) xs ys (at + length ys) refl inside in
      let long = length-take-le at xs inside in
      sym (take-take (at + n) (at + length ys) over (omega arith))
      ∙ ap (take (at + n)) whole
      ∙ ap (λ m. take (m + n) (take at xs ++ ys)) (sym long)
      ∙ take-append-add (take at xs) ys n

  end : (n : ℕ) → drop (at + n) over ≡ drop n ys
  end n =
      let rest = drop (length xs - at) (drop at xs) in
      let none : rest ≡ [] = drop_all (length xs - at) (drop at xs) (let l = length-drop at xs in omega arith) in
      sym (drop-drop n at over)
      ∙ ap (drop n) (drop_at (take at xs) (ys ++ rest) at (length-take-le at xs inside))
      ∙ ap (λ l. drop n (ys ++ l)) none
      ∙ ap (drop n) (append-nil ys)

  -- the part as it was
  part : mid_of at (length xs - at) xs ≡ drop at xs
  part = take_all (length xs - at) (drop at xs) (let l = length-drop at xs in omega arith)

-- how long the part from `at` on is
pub room_left : (at : ℕ) (xs : List ℕ) → at ≤ length xs → length (mid_of at (length xs - at) xs) ≡ length xs - at
room_left at xs inside = ap length (part at xs [] inside) ∙ length-drop at xs

-- what a read gave, at the front of the part that was lent to it, is behind what came before
pub came_next : (o m n : Option (List ℕ)) (at count : ℕ) (xs ys : List ℕ) → at ≤ length xs → count ≤ length ys
    → Consumes o m (take at xs) → Consumes m n (take count ys)
    → Consumes o n (take (at + count) (put_mid at (length xs - at) xs ys))
came_next o m n at count xs ys inside few p q =
    Consumes-append o m n (take at xs) (take count ys) _ (front at xs ys inside count few) p q

module _ {R : Type 0} (r : ReadGhosts R) (source mid after : R) (start buffer piece : List ℕ) (at n : ℕ) where
  abbrev lent : List ℕ
  lent = mid_of at (length buffer - at) buffer

  pub filled_next : length buffer ≡ length start → length piece ≡ length lent
      → Filled r source mid start buffer at → Filled r mid after lent piece n
      → Filled r source after start (put_mid at (length buffer - at) buffer piece) (at + n)
  filled_next same as_many f g =
      let inside : at ≤ length buffer = omega (arith, same, f.fits) in
      let room = room_left at buffer inside in
      let few : n ≤ length piece = omega (arith, g.fits, as_many) in
      record {
        fits = omega (arith, g.fits, room, same, inside);
        came = came_next _ _ _ at n buffer piece inside few f.came g.came;
        behind =
            end at buffer piece inside n
            ∙ g.behind
            ∙ ap (drop n) (part at buffer piece inside ∙ f.behind)
            ∙ drop-drop n at start;
      }
