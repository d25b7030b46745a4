-- A run, one line after another.
use Rattle.std.proofs.Common.{◌≡◌, ◌⊎◌, inl, inr, ℕ, List, [], ◌∷◌, ◌++◌, Bool, true, false, ◌||◌, Option, Some, None, refl, sym, ◌∙◌, ap, subst, append_assoc, arith}
use Rattle.std.specs.Prelude.{All}
use Rattle.std.proofs.lemmas.List.{append-nil, map-append}
use Rattle.std.proofs.lemmas.List.Concat.{flat_map-append}
use Rattle.std.proofs.lemmas.List.Elements.{All-nil, All-push}
use Rattle.std.proofs.lemmas.List.Folds.{list_any-append}
use Rattle.sb_outside.specs.Links.{Exchange}
use Rattle.sb_outside.specs.Streams.{Gains}
use Rattle.sb_input.specs.declared.partial_line.PartialLine.{PartialLine}
use Rattle.sb_input.specs.declared.reader.Reader.{Reader}
use Rattle.sb_input.specs.declared.reader.ReadEnd.{ReadEnd}
use Rattle.sb_input.specs.declared.reader.ReadEnd.TheVariants.{Fault, OutOfMemory as NoMemory, TooMuch}
use Rattle.sb_input.specs.Lines.{lines_of, AreWhole}
use Rattle.sb_input.specs.Taking.{Took, IsLong, IsAhead, AreFirst}
use Rattle.sb_input.specs.Readers.{pending_of, IsAt, ReadsLine, ReadsNone, ReadsNoLine}
use Rattle.sb_input.proofs.Splits.{took-none}
use Rattle.sb_input.proofs.Readings.{pending_fits}
use Rattle.sb_input.proofs.Advances.{advances, fresh_at, first_lines}
use Rattle.sb_client.specs.Answers.{Answer, IsAnswer, IsCutAt, IsBetween}
use Rattle.sb_client.specs.Endings.{end_of_reading}
use Rattle.sb_client.specs.Outside.{Outside}
use Rattle.sb_client.specs.Runs.{lines_in, exchanges_in, replies_in, any_refused, IsAheadAt, IsWholeRun, IsCutRun, IsRun, RunsSoFar}
use Rattle.sb_client.specs.Serving.{IsServed, IsCutServing}
use Rattle.sb_client.specs.declared.ending.ClientEnding.{ClientEnding}
use Rattle.sb_client.specs.declared.ending.ClientEnding.TheVariants.{Done, ReadFault, WriteFault, LinkFault, BadReply, LongInput, OutOfMemory}
use Rattle.sb_client.proofs.Telling.{tells-none, tells-tells}

-- ---- the answers, with one more

or-false : (a : Bool) → (a || false) ≡ a
or-false true = refl
or-false false = refl

exchanges-push : (xs : List Answer) (x : Answer) → exchanges_in (xs ++ x ∷ []) ≡ exchanges_in xs ++ x.made
exchanges-push xs x = flat_map-append (λ (a : Answer). a.made) xs (x ∷ []) ∙ ap (λ (l : List Exchange). exchanges_in xs ++ l) (append-nil x.made)

replies-push : (xs : List Answer) (x : Answer) → replies_in (xs ++ x ∷ []) ≡ replies_in xs ++ x.written
replies-push xs x = flat_map-append (λ (a : Answer). a.written) xs (x ∷ []) ∙ ap (λ (l : List ℕ). replies_in xs ++ l) (append-nil x.written)

refused-push : (xs : List Answer) (x : Answer) → any_refused (xs ++ x ∷ []) ≡ (any_refused xs || x.refused)
refused-push xs x = list_any-append (λ (a : Answer). a.refused) xs (x ∷ []) ∙ ap (λ b. any_refused xs || b) (or-false x.refused)

-- what is known of a run after one more line
pub record RunsOn (was : Outside) (left : Option (List ℕ)) (told : Option (List Exchange)) (given : Option (List ℕ)) (r : Reader) (refused : Bool) : Type 0 where
  pub input : List ℕ
  pub done : List ℕ
  pub at : IsAt was.left input left r
  pub split : input ≡ done ++ pending_of r
  pub goes : AreWhole done ⊎ ((r.ended ≡ true) × (pending_of r ≡ []))
  pub answers : List Answer
  pub lines : lines_in answers ≡ lines_of done
  pub each : All (IsAnswer was.key) answers
  pub tells : Gains was.told told (exchanges_in answers)
  pub gives : Gains was.given given (replies_in answers)
  pub says : refused ≡ any_refused answers

pub runs_on : (was : Outside) (left left_after : Option (List ℕ)) (told told_after : Option (List Exchange)) (given given_after : Option (List ℕ)) (r next : Reader) (refused was_refused both : Bool) (front : PartialLine) (so_far : RunsSoFar was left told given r refused) (reads : ReadsLine was.left so_far.input (pending_of r) left_after next front)
    → IsServed was.key reads.line told told_after given given_after was_refused → both ≡ (refused || was_refused) → RunsOn was left_after told_after given_after next both
runs_on was left left_after told told_after given given_after r next refused was_refused both front so_far reads served both_is =
    let on = advances so_far.input so_far.done (pending_of r) reads.more reads.line next so_far.split so_far.whole reads.no_feed reads.next in
    let answer : Answer = record { line = reads.line; made = served.made; written = served.written; refused = was_refused } in
    record {
      input = so_far.input ++ reads.more;
      done = on.next;
      at = reads.at;
      split = on.split;
      goes = on.goes;
      answers = so_far.answers ++ answer ∷ [];
      lines = map-append (λ (a : Answer). a.line) so_far.answers (answer ∷ []) ∙ ap (λ (l : List (List ℕ)). l ++ reads.line ∷ []) so_far.lines ∙ sym on.says;
      each = All-push (IsAnswer was.key) so_far.answers answer so_far.each served.is;
      tells = subst (Gains was.told told_after) (sym (exchanges-push so_far.answers answer)) (tells-tells was.told told told_after (exchanges_in so_far.answers) served.made so_far.tells served.tells);
      gives = subst (Gains was.given given_after) (sym (replies-push so_far.answers answer)) (tells-tells was.given given given_after (replies_in so_far.answers) served.written so_far.gives served.gives);
      says = both_is ∙ ap (λ b. b || was_refused) so_far.says ∙ sym (refused-push so_far.answers answer);
    }

-- nothing is read yet
pub nothing_yet : (was : Outside) (r : Reader) → (r.at ≡ 0) × (r.end ≡ 0) × (r.ended ≡ false) × (r.taken ≡ 0) → RunsSoFar was was.left was.told was.given r false
nothing_yet was r fresh =
    let at = fresh_at was.left r fresh in
    record {
      input = [];
      done = [];
      at = at.0;
      split = sym at.1;
      whole = λ rest. refl;
      answers = [];
      lines = refl;
      each = All-nil (IsAnswer was.key);
      tells = tells-none was.told;
      gives = tells-none was.given;
      says = refl;
    }

-- it goes on
pub still_runs : (was : Outside) (left : Option (List ℕ)) (told : Option (List Exchange)) (given : Option (List ℕ)) (r : Reader) (refused over : Bool) → RunsOn was left told given r refused → over ≡ false → (r.ended ≡ true → pending_of r ≡ [] → over ≡ true) → RunsSoFar was left told given r refused
still_runs was left told given r refused over run not_over would = record {
  input = run.input;
  done = run.done;
  at = run.at;
  split = run.split;
  whole = whole_by run.goes;
  answers = run.answers;
  lines = run.lines;
  each = run.each;
  tells = run.tells;
  gives = run.gives;
  says = run.says;
}
  where
    whole_by : AreWhole run.done ⊎ ((r.ended ≡ true) × (pending_of r ≡ [])) → AreWhole run.done
    whole_by (inl whole) = whole
    whole_by (inr last) = let other : true ≡ false = sym (would last.0 last.1) ∙ not_over in absurd cc

-- ---- a run that took all its input

-- behind its last line
pub is_over : (was now : Outside) (r : Reader) (refused : Bool) → RunsOn was now.left now.told now.given r refused → r.ended ≡ true → pending_of r ≡ [] → IsWholeRun was now refused
is_over was now r refused run ended none =
    let all : run.input ≡ run.done = run.split ∙ ap (λ (l : List ℕ). run.done ++ l) none ∙ append-nil run.done in
    record {
      input = run.input;
      took = run.at.took;
      ended = run.at.ended ended;
      answers = run.answers;
      lines = run.lines ∙ ap lines_of (sym all);
      each = run.each;
      told = run.tells;
      written = run.gives;
      says = run.says;
    }

-- the source ended between two lines
pub ended_run : (was now : Outside) (left : Option (List ℕ)) (r next : Reader) (refused : Bool) (so_far : RunsSoFar was left now.told now.given r refused) → ReadsNone was.left so_far.input (pending_of r) now.left next → IsWholeRun was now refused
ended_run was now left r next refused so_far reads =
    let all : so_far.input ≡ so_far.done = so_far.split ∙ ap (λ (l : List ℕ). so_far.done ++ l) reads.none ∙ append-nil so_far.done in
    record {
      input = so_far.input;
      took = reads.at.took;
      ended = reads.ended;
      answers = so_far.answers;
      lines = so_far.lines ∙ ap lines_of (sym all);
      each = so_far.each;
      told = so_far.tells;
      written = so_far.gives;
      says = so_far.says;
    }

-- ---- a run that ended before

-- before any line
pub cut_at_once : (was : Outside) → IsCutRun was was OutOfMemory
cut_at_once was = record {
  answers = [];
  each = All-nil (IsAnswer was.key);
  last = None;
  first = no_lines was.left;
  taken = [];
  ahead = [];
  took = took-none was.left;
  lines = refl;
  is_ahead = record { line = []; rest = []; split = refl; no_feed = tt; fits = omega arith };
  long = λ e. absurd cc;
  made = [];
  part = [];
  ends = (tt, refl, refl);
  told = tells-none was.told;
  written = tells-none was.given;
}
  where
    no_lines : (left : Option (List ℕ)) → AreFirst left []
    no_lines None = tt
    no_lines (Some all) = (lines_of all, refl)

ahead_of : (end : ReadEnd) (ahead : List ℕ) → IsAhead end ahead → IsAheadAt (end_of_reading end) ahead
ahead_of Fault ahead is = is
ahead_of NoMemory ahead is = is
ahead_of TooMuch ahead is = tt

between : (end : ReadEnd) → IsBetween (end_of_reading end)
between Fault = tt
between NoMemory = tt
between TooMuch = tt

pub ends_long : (end : ReadEnd) → end_of_reading end ≡ LongInput → end ≡ TooMuch
ends_long TooMuch is = refl
ends_long Fault is = absurd cc
ends_long NoMemory is = absurd cc

-- no line came
pub cut_between : (was now : Outside) (left : Option (List ℕ)) (r : Reader) (refused : Bool) (why : ReadEnd) (end : ClientEnding) → end ≡ end_of_reading why → (so_far : RunsSoFar was left now.told now.given r refused) → ReadsNoLine why was.left so_far.input (pending_of r) now.left
    → (why ≡ TooMuch → IsLong was.left now.left) → IsCutRun was now end
cut_between was now left r refused why end is so_far reads long = subst (λ (e : ClientEnding). IsCutRun was now e) (sym is) (record {
  answers = so_far.answers;
  each = so_far.each;
  last = None;
  first = subst (AreFirst was.left) (sym same) (first_lines was.left left so_far.input so_far.done r so_far.at so_far.split (inl so_far.whole));
  taken = so_far.done;
  ahead = pending_of r ++ reads.more;
  took = subst (Took was.left now.left) (ap (λ (l : List ℕ). l ++ reads.more) so_far.split ∙ append_assoc so_far.done (pending_of r) reads.more) reads.took;
  lines = sym same;
  is_ahead = ahead_of why (pending_of r ++ reads.more) reads.is_ahead;
  long = λ e. long (ends_long why e);
  made = [];
  part = [];
  ends = (between why, refl, refl);
  told = subst (Gains was.told now.told) (sym (append-nil (exchanges_in so_far.answers))) so_far.tells;
  written = subst (Gains was.given now.given) (sym (append-nil (replies_in so_far.answers))) so_far.gives;
})
  where
    same : lines_in so_far.answers ++ [] ≡ lines_of so_far.done
    same = append-nil (lines_in so_far.answers) ∙ so_far.lines

ahead_at : (key : List ℕ) (end : ClientEnding) (line : List ℕ) (made : List Exchange) (part : List ℕ) (r : Reader) → IsCutAt key end line made part → IsAheadAt end (pending_of r)
ahead_at key (Done refused) line made part r is = absurd is
ahead_at key ReadFault line made part r is = absurd is
ahead_at key WriteFault line made part r is = pending_fits r
ahead_at key LinkFault line made part r is = pending_fits r
ahead_at key BadReply line made part r is = pending_fits r
ahead_at key LongInput line made part r is = absurd is
ahead_at key OutOfMemory line made part r is = record {
  line = [];
  rest = pending_of r;
  split = refl;
  no_feed = tt;
  fits = omega (arith, pending_fits r);
}

never_long : (key : List ℕ) (end : ClientEnding) (line : List ℕ) (made : List Exchange) (part : List ℕ) → IsCutAt key end line made part → end ≡ LongInput → ⊥
never_long key end line made part is e = let there : IsCutAt key LongInput line made part = subst (λ (x : ClientEnding). IsCutAt key x line made part) e is in there

-- at a line
pub cut_at_line : (was now : Outside) (left : Option (List ℕ)) (told : Option (List Exchange)) (given : Option (List ℕ)) (r next : Reader) (refused : Bool) (end : ClientEnding) (front : PartialLine) (so_far : RunsSoFar was left told given r refused) (reads : ReadsLine was.left so_far.input (pending_of r) now.left next front)
    → IsCutServing was.key reads.line told now.told given now.given end → IsCutRun was now end
cut_at_line was now left told given r next refused end front so_far reads cut =
    let on = advances so_far.input so_far.done (pending_of r) reads.more reads.line next so_far.split so_far.whole reads.no_feed reads.next in
    let lines : lines_of on.next ≡ lines_in so_far.answers ++ reads.line ∷ [] = on.says ∙ ap (λ (l : List (List ℕ)). l ++ reads.line ∷ []) (sym so_far.lines) in
    record {
      answers = so_far.answers;
      each = so_far.each;
      last = Some reads.line;
      first = subst (AreFirst was.left) lines (first_lines was.left now.left (so_far.input ++ reads.more) on.next next reads.at on.split on.goes);
      taken = on.next;
      ahead = pending_of next;
      took = subst (Took was.left now.left) on.split reads.at.took;
      lines = lines;
      is_ahead = ahead_at was.key end reads.line cut.made cut.part next cut.is;
      long = λ e. absurd (never_long was.key end reads.line cut.made cut.part cut.is e);
      made = cut.made;
      part = cut.part;
      ends = cut.is;
      told = tells-tells was.told told now.told (exchanges_in so_far.answers) cut.made so_far.tells cut.tells;
      written = tells-tells was.given given now.given (replies_in so_far.answers) cut.part so_far.gives cut.gives;
    }

-- ---- by its ending

pub early_run : (was now : Outside) (end : ClientEnding) → IsCutRun was now end → IsRun was now end
early_run was now (Done refused) cut = absurd cut.is_ahead
early_run was now ReadFault cut = cut
early_run was now WriteFault cut = cut
early_run was now LinkFault cut = cut
early_run was now BadReply cut = cut
early_run was now LongInput cut = cut
early_run was now OutOfMemory cut = cut
