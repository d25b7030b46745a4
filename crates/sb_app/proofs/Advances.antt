-- One more line of a run.
use Rattle.std.proofs.Common.{◌≡◌, ◌⊎◌, inl, inr, ℕ, List, [], ◌∷◌, ◌++◌, map, Bool, true, false, ◌||◌, Option, refl, sym, ◌∙◌, ap, subst, append_assoc}
use Rattle.std.proofs.lemmas.List.{append-nil, map-append}
use Rattle.sb_outside.specs.Streams.{Gains}
use Rattle.sb_outside.proofs.Gains.{gains-gains, gains-none}
use Rattle.sb_machine.specs.declared.state.State.{State}
use Rattle.sb_input.specs.declared.partial_line.PartialLine.{PartialLine}
use Rattle.sb_input.specs.declared.reader.Reader.{Reader}
use Rattle.sb_app.specs.declared.script_line.ScriptLine.{ScriptLine}
use Rattle.sb_input.specs.Lines.{lines_of, AreWhole}
use Rattle.sb_app.specs.Lines.{script_line, script_lines}
use Rattle.sb_app.specs.Jumps.{AllWithin, IsWithin}
use Rattle.sb_app.specs.Outside.{Output, Outside}
use Rattle.sb_app.specs.Runs.{reply_to, state_by, refuses_it, replies_to, state_after_all, any_refused, IsAnswered, IsScriptRun, RunsSoFar, FollowLines}
use Rattle.sb_input.specs.Readers.{pending_of, IsAt, ReadsLine, ReadsNone}
use Rattle.sb_app.proofs.Follows.{followed_says}
use Rattle.sb_input.proofs.Advances.{advances, fresh_at}

state_after_all-push : (s : State) (xs : List ScriptLine) (x : ScriptLine) → state_after_all s (xs ++ x ∷ []) ≡ state_by (state_after_all s xs) x
state_after_all-push s [] x = refl
state_after_all-push s (y ∷ xs) x = state_after_all-push (state_by s y) xs x

replies_to-push : (s : State) (xs : List ScriptLine) (x : ScriptLine) → replies_to s (xs ++ x ∷ []) ≡ replies_to s xs ++ reply_to (state_after_all s xs) x
replies_to-push s [] x = append-nil (reply_to s x)
replies_to-push s (y ∷ xs) x =
    ap (λ (l : List ℕ). reply_to s y ++ l) (replies_to-push (state_by s y) xs x) ∙ sym (append_assoc (reply_to s y) (replies_to (state_by s y) xs) (reply_to (state_after_all (state_by s y) xs) x))

or-assoc : (a b c : Bool) → (a || (b || c)) ≡ ((a || b) || c)
or-assoc true b c = refl
or-assoc false b c = refl

or-false : (a : Bool) → (a || false) ≡ a
or-false true = refl
or-false false = refl

any_refused-push : (s : State) (xs : List ScriptLine) (x : ScriptLine) → any_refused s (xs ++ x ∷ []) ≡ (any_refused s xs || refuses_it (state_after_all s xs) x)
any_refused-push s [] x = or-false (refuses_it s x)
any_refused-push s (y ∷ xs) x =
    ap (λ b. refuses_it s y || b) (any_refused-push (state_by s y) xs x) ∙ or-assoc (refuses_it s y) (any_refused (state_by s y) xs) (refuses_it (state_after_all (state_by s y) xs) x)

pub said_push : (done next line : List ℕ) → lines_of next ≡ lines_of done ++ line ∷ [] → script_lines next ≡ script_lines done ++ script_line line ∷ []
said_push done next line is = ap (map script_line) is ∙ map-append script_line (lines_of done) (line ∷ [])

-- one line more that isn't too far ahead of the clock
pub within_push : (clock : ℕ → Type 0) (days : ℕ) (xs : List ScriptLine) (x : ScriptLine) → AllWithin clock days xs → IsWithin clock days x → AllWithin clock days (xs ++ x ∷ [])
within_push clock days [] x all is = (is, tt)
within_push clock days (y ∷ xs) x all is = (all.0, within_push clock days xs x all.1 is)

-- what is known of a run after one more line
pub record RunsOn (lines : List ScriptLine) (s : State) (start left told told_after : Option (List ℕ)) (r : Reader) (now : State) (refused : Bool) : Type 0 where
  pub input : List ℕ
  pub done : List ℕ
  pub at : IsAt start input left r
  pub split : input ≡ done ++ pending_of r
  pub goes : AreWhole done ⊎ ((r.ended ≡ true) × (pending_of r ≡ []))
  pub written : Gains told told_after (replies_to s (script_lines done))
  pub leads : now ≡ state_after_all s (script_lines done)
  pub says : refused ≡ any_refused s (script_lines done)
  pub lines_are : script_lines done ≡ lines

pub runs_on : (s now after : State) (start left left_after told : Option (List ℕ)) (mid later : Output) (r next : Reader) (refused was both : Bool) (front : PartialLine) (x : ScriptLine) (so_far : RunsSoFar s start left told mid.given r now refused)
    → (reads : ReadsLine start so_far.input (pending_of r) left_after next front) → x ≡ script_line reads.line → IsAnswered now x mid later after was → both ≡ (refused || was) → RunsOn (script_lines so_far.done ++ x ∷ []) s start left_after told later.given next after both
runs_on s now after start left left_after told mid later r next refused was both front x so_far reads says served both_is =
    let on = advances so_far.input so_far.done (pending_of r) reads.more reads.line next so_far.split so_far.whole reads.no_feed reads.next in
    let all : script_lines on.next ≡ script_lines so_far.done ++ x ∷ [] = said_push so_far.done on.next reads.line on.says ∙ ap (λ y. script_lines so_far.done ++ y ∷ []) (sym says) in
    record {
      input = so_far.input ++ reads.more;
      done = on.next;
      at = reads.at;
      split = on.split;
      goes = on.goes;
      written =
          subst (Gains told later.given)
          (ap (λ (y : State). replies_to s (script_lines so_far.done) ++ reply_to y x) so_far.leads ∙ sym (ap (replies_to s) all ∙ replies_to-push s (script_lines so_far.done) x))
          (gains-gains told mid.given later.given (replies_to s (script_lines so_far.done)) (reply_to now x) so_far.written served.written);
      leads = served.leads ∙ ap (λ (y : State). state_by y x) so_far.leads ∙ sym (ap (state_after_all s) all ∙ state_after_all-push s (script_lines so_far.done) x);
      says =
          both_is
          ∙ ap (λ b. b || was) so_far.says
          ∙ ap (λ b. any_refused s (script_lines so_far.done) || b) (served.says ∙ ap (λ (y : State). refuses_it y x) so_far.leads)
          ∙ sym (ap (any_refused s) all ∙ any_refused-push s (script_lines so_far.done) x);
      lines_are = all;
    }

-- nothing is read yet
pub nothing_yet : (s : State) (start told : Option (List ℕ)) (r : Reader) → (r.at ≡ 0) × (r.end ≡ 0) × (r.ended ≡ false) × (r.taken ≡ 0) → (so_far : RunsSoFar s start start told told r s false) × (script_lines so_far.done ≡ [])
nothing_yet s start told r fresh =
    let at = fresh_at start r fresh in (
      record {
        input = [];
        done = [];
        at = at.0;
        split = sym at.1;
        whole = λ rest. refl;
        written = gains-none told;
        leads = refl;
        says = refl;
      },
      refl,
    )

-- it goes on
pub still_runs : (lines : List ScriptLine) (s now : State) (start left told told_after : Option (List ℕ)) (r : Reader) (refused over : Bool) → RunsOn lines s start left told told_after r now refused → over ≡ false → (r.ended ≡ true → pending_of r ≡ [] → over ≡ true) → (so_far : RunsSoFar s start left told told_after r now refused) × (script_lines so_far.done ≡ lines)
still_runs lines s now start left told told_after r refused over run not_over would = (
  record {
    input = run.input;
    done = run.done;
    at = run.at;
    split = run.split;
    whole = whole_by run.goes;
    written = run.written;
    leads = run.leads;
    says = run.says;
  },
  run.lines_are,
)
  where
    whole_by : AreWhole run.done ⊎ ((r.ended ≡ true) × (pending_of r ≡ [])) → AreWhole run.done
    whole_by (inl whole) = whole
    whole_by (inr last) = let other : true ≡ false = sym (would last.0 last.1) ∙ not_over in absurd cc

-- it is over
pub is_over : (clock : ℕ → Type 0) (days : ℕ) (Safe : Type 0) (lines : List ScriptLine) (s state : State) (was now : Outside) (r : Reader) (refused : Bool) → RunsOn lines s was.input.left now.input.left was.output.given now.output.given r state refused → r.ended ≡ true → pending_of r ≡ [] → (Safe → FollowLines s lines was.disks now.disks) → AllWithin clock days lines
    → IsScriptRun clock days Safe s was now state refused
is_over clock days Safe lines s state was now r refused run ended none moments within =
    let all : run.input ≡ run.done = run.split ∙ ap (λ (l : List ℕ). run.done ++ l) none ∙ append-nil run.done in
    record {
      input = run.input;
      took = run.at.took;
      ended = run.at.ended ended;
      within = subst (AllWithin clock days) (sym run.lines_are ∙ ap script_lines (sym all)) within;
      written = subst (λ (l : List ℕ). Gains was.output.given now.output.given (replies_to s (script_lines l))) (sym all) run.written;
      leads = run.leads ∙ ap (λ (l : List ℕ). state_after_all s (script_lines l)) (sym all);
      says = run.says ∙ ap (λ (l : List ℕ). any_refused s (script_lines l)) (sym all);
      moments = λ safe. followed_says s lines _ was.disks now.disks (sym run.lines_are ∙ ap script_lines (sym all)) (moments safe);
    }

-- the source ended between two lines
pub ended_run : (clock : ℕ → Type 0) (days : ℕ) (Safe : Type 0) (s state : State) (was now : Outside) (left : Option (List ℕ)) (r next : Reader) (refused : Bool) (so_far : RunsSoFar s was.input.left left was.output.given now.output.given r state refused) → ReadsNone was.input.left so_far.input (pending_of r) now.input.left next
    → (Safe → FollowLines s (script_lines so_far.done) was.disks now.disks) → AllWithin clock days (script_lines so_far.done) → IsScriptRun clock days Safe s was now state refused
ended_run clock days Safe s state was now left r next refused so_far reads moments within =
    let all : so_far.input ≡ so_far.done = so_far.split ∙ ap (λ (l : List ℕ). so_far.done ++ l) reads.none ∙ append-nil so_far.done in
    record {
      input = so_far.input;
      took = reads.at.took;
      ended = reads.ended;
      within = subst (AllWithin clock days) (ap script_lines (sym all)) within;
      written = subst (λ (l : List ℕ). Gains was.output.given now.output.given (replies_to s (script_lines l))) (sym all) so_far.written;
      leads = so_far.leads ∙ ap (λ (l : List ℕ). state_after_all s (script_lines l)) (sym all);
      says = so_far.says ∙ ap (λ (l : List ℕ). any_refused s (script_lines l)) (sym all);
      moments = λ safe. followed_says s _ _ was.disks now.disks (ap script_lines (sym all)) (moments safe);
    }
