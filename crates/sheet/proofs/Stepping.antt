-- The lines of a lawful run, one step at a time: what is left of the run leads on lawfully from some place, so the loss
-- so far is within the bound, and its lines are what is left of the lines.
use Rattle.std.proofs.Common.{◌≡◌, ℕ, ◌+◌, ◌<◌, ◌≤◌, false, List, [], ◌∷◌, ◌++◌, length, get_or, drop, Ok, sym, refl, ap, ◌∙◌, subst, arith}
use Rattle.std.proofs.lemmas.List.{drop_more, append_assoc, length-append}
use Rattle.subject.specs.Problems.{Problem}
use Rattle.subject.specs.declared.run.Step.{Step}
use Rattle.subject.specs.Runs.{IsLawful, IsRun, loss_behind}
use Rattle.search.proofs.Trails.{after_low}
use Rattle.survey_file.specs.Pieces.{put_answer, put_bytes}
use Rattle.survey_file.proofs.Pieces.{put_answer-ok, put_bytes-none, length-put_bytes, put_bytes-put_bytes}
use Rattle.sheet.specs.Sheet.{line_of, step_lines}

module _ {C : Type 0} (P : Problem C) (steps : List Step) where
  -- from some place, with the loss so far within the bound, the rest of the steps leads on lawfully
  pub record IsOnWay (loss : ℕ) (rest : List Step) : Type 0 where
    pub place : ℕ
    pub low : loss ≤ P.request.bound
    pub lawful : IsLawful P place loss rest

  on_way-start : IsRun P steps → IsOnWay 0 steps
  on_way-start r = record { place = P.request.start; low = omega arith; lawful = r }

  -- a step further
  on_way-next : (loss : ℕ) (s : Step) (rest : List Step) → IsOnWay loss (s ∷ rest)
      → IsOnWay (loss_behind (P.site.way s.way) s.mark loss) rest
  on_way-next loss s rest o =
      let l = o.lawful in
      let w = l.0 in
      let opens = sym l.1.opens in
      record {
        place = w.to;
        low =
            subst (λ x. loss_behind x s.mark loss ≤ P.request.bound) opens
            (after_low P s.mark (loss + w.loss) _ l.1.arrives refl);
        lawful = subst (λ x. IsLawful P w.to (loss_behind x s.mark loss) rest) opens l.2;
      }

  -- the step with a number, its line, and the loss behind it
  abbrev pub step_at : ℕ → Step
  step_at i = get_or steps i (record { way = 0; mark = false })

  abbrev pub line_at : ℕ → ℕ → List ℕ
  line_at loss i = line_of loss (step_at i) (P.site.way (step_at i).way)

  abbrev pub loss_at : ℕ → ℕ → ℕ
  loss_at loss i = loss_behind (P.site.way (step_at i).way) (step_at i).mark loss

  -- the lines up to some step are `done`
  pub record IsLined (loss : ℕ) (i : ℕ) (done : List ℕ) : Type 0 where
    pub left : IsOnWay loss (drop i steps)
    pub lines : done ++ step_lines P loss (drop i steps) ≡ step_lines P 0 steps

  lined-none : IsRun P steps → IsLined 0 0 []
  lined-none r = record { left = on_way-start r; lines = refl }

  lined-next : (loss i : ℕ) (done : List ℕ) → i < length steps → IsLined loss i done
      → IsLined (loss_at loss i) (i + 1) (done ++ line_at loss i)
  lined-next loss i done h l =
      let next = drop_more steps i (record { way = 0; mark = false }) h in
      let rest = step_lines P (loss_at loss i) (drop (i + 1) steps) in
      record {
        left = on_way-next loss (step_at i) (drop (i + 1) steps) (subst (IsOnWay loss) next l.left);
        lines =
            append_assoc done (line_at loss i) rest
            ∙ ap (λ xs. done ++ step_lines P loss xs) (sym next)
            ∙ l.lines;
      }

  -- the lines so far and the next are no longer than all
  lined-long : (loss i : ℕ) (done : List ℕ) → i < length steps → IsLined loss i done
      → length done + length (line_at loss i) ≤ length (step_lines P 0 steps)
  lined-long loss i done h l =
      let n = lined-next loss i done h l in
      let line = line_at loss i in
      let rest = step_lines P (loss_at loss i) (drop (i + 1) steps) in
      let a = ap length n.lines in
      let b = length-append (done ++ line) rest in
      let d = length-append done line in
      omega arith

  -- the lines so far have n bytes, of at most `most`
  pub record IsMeasured (most loss i n : ℕ) : Type 0 where
    pub done : List ℕ
    pub lined : IsLined loss i done
    pub long : n ≡ length done
    pub few : n ≤ most

  pub measured-next : (most loss i n n' loss' : ℕ) (line : List ℕ) → i < length steps → IsMeasured most loss i n
      → line ≡ line_at loss i → loss' ≡ loss_at loss i → n' ≡ n + length line → n' ≤ most
      → IsMeasured most loss' (i + 1) n'
  measured-next most loss i n n' loss' line h c is behind sum few =
      let text = line_at loss i in
      record {
        done = c.done ++ text;
        lined = subst (λ l. IsLined l (i + 1) (c.done ++ text)) (sym behind) (lined-next loss i c.done h c.lined);
        long =
            sum ∙ ap (λ k. k + length line) c.long ∙ ap (λ t. length c.done + length t) is
            ∙ sym (length-append c.done text);
        few = few;
      }

  -- the lines so far are in the bytes, from `start` on
  pub record IsLaid (before : List ℕ) (start loss i at : ℕ) (out : List ℕ) : Type 0 where
    pub done : List ℕ
    pub lined : IsLined loss i done
    pub next : at ≡ start + length done
    pub bytes : out ≡ put_bytes before start done

  pub laid-none : (before : List ℕ) (start : ℕ) → start ≤ length before → IsRun P steps
      → IsLaid before start 0 0 start before
  laid-none before start h r =
      record { done = []; lined = lined-none r; next = omega arith; bytes = sym (put_bytes-none before start h) }

  module _ (before : List ℕ) (start loss i at : ℕ) (out line : List ℕ)
      (room : start + length (step_lines P 0 steps) ≤ length before) (h : i < length steps)
      (c : IsLaid before start loss i at out) (is : line ≡ line_at loss i) where
    line_fits : at + length line ≤ length out
    line_fits =
        let all = lined-long loss i c.done h c.lined in
        let same = ap length is in
        let here = c.next in
        let fits : start + length c.done ≤ length before = omega arith in
        let long = ap length c.bytes ∙ length-put_bytes before start c.done fits in
        omega arith

    pub laid-next : (at' loss' : ℕ) (out' : List ℕ) → loss' ≡ loss_at loss i
        → Ok at' ≡ put_answer out at line → out' ≡ put_bytes out at line
        → IsLaid before start loss' (i + 1) at' out'
    laid-next at' loss' out' behind answered laid =
        let text = line_at loss i in
        let placed = put_answer-ok out at line at' answered in
        let all = lined-long loss i c.done h c.lined in
        let here = c.next in
        let same = ap length is in
        let long = length-append c.done text in
        let fits : start + length (c.done ++ text) ≤ length before = omega arith in
        record {
          done = c.done ++ text;
          lined = subst (λ l. IsLined l (i + 1) (c.done ++ text)) (sym behind) (lined-next loss i c.done h c.lined);
          next = placed.1 ∙ omega arith;
          bytes =
              laid ∙ ap (put_bytes out at) is ∙ ap (λ o. put_bytes o at text) c.bytes
              ∙ put_bytes-put_bytes before start at c.done text here fits;
        }
