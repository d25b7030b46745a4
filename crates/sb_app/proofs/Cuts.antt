-- A run that ends before its input does.
use Rattle.std.proofs.Common.{◌≡◌, ◌≢◌, ◌⊎◌, inl, inr, ℕ, List, [], ◌∷◌, ◌++◌, take, drop, map, Bool, true, false, Option, Some, None, Result, Ok, Err, refl, sym, ◌∙◌, ap, subst, append_assoc, arith}
use Rattle.std.specs.Prelude.{IfSome, OnOk, OnErr}
use Rattle.std.proofs.lemmas.List.{append-nil, map-append, take-append-drop}
use Rattle.sb_outside.specs.Causes.{RoseByOne}
use Rattle.sb_outside.specs.Streams.{Gains, GainsPart}
use Rattle.sb_outside.proofs.Gains.{gains-gains, gains-none}
use Rattle.sb_machine.specs.Answers.{moment_of}
use Rattle.sb_machine.specs.Parts.{at_part_or_whole}
use Rattle.sb_machine.specs.History.{Log, is_fault, fresh_log, state_after}
use Rattle.sb_machine.specs.declared.call.TimedCall.{TimedCall}
use Rattle.sb_machine.specs.declared.reply.Answered.{Answered}
use Rattle.sb_machine.specs.declared.reply.Refusal.{Refusal}
use Rattle.sb_machine.specs.declared.reply.Refusal.TheVariants.{BadCall, DiskFault as FailedDisk, Stopped, OutOfMemory as WantsMemory}
use Rattle.sb_machine.specs.declared.state.State.{State}
use Rattle.sb_node.specs.Nodes.{IsOneOf, StayOneOf}
use Rattle.sb_node.specs.Steps.{IsStep, entries_with, is_spared, log_of, ticked_to}
use Rattle.sb_node.proofs.Sparing.{step_spares}
use Rattle.sb_app.specs.Outside.{Input, Output, Outside}
use Rattle.sb_lines.specs.Replies.{answer_line}
use Rattle.sb_lines.specs.declared.form.Form.{Form}
use Rattle.sb_lines.specs.declared.form.Form.TheVariants.{Plain}
use Rattle.sb_input.specs.declared.partial_line.PartialLine.{PartialLine}
use Rattle.sb_input.specs.declared.reader.Reader.{Reader}
use Rattle.sb_input.specs.declared.reader.ReadEnd.{ReadEnd}
use Rattle.sb_input.specs.declared.reader.ReadEnd.TheVariants.{Fault, OutOfMemory as NoMemory, TooMuch}
use Rattle.sb_app.specs.declared.script_line.ScriptLine.{ScriptLine}
use Rattle.sb_app.specs.declared.script_line.ScriptLine.TheVariants.{Malformed, Request}
use Rattle.sb_app.specs.declared.dispatch.AnswerKind.{AnswerKind}
use Rattle.sb_app.specs.declared.dispatch.AnswerKind.TheVariants.{Failed, Wanting}
use Rattle.sb_app.specs.declared.ending.RunEnd.{RunEnd}
use Rattle.sb_app.specs.declared.ending.RunEnd.TheVariants.{ReadFault, WriteFault, DiskFault, OutOfMemory, LongInput, TimeJump}
use Rattle.sb_input.specs.Lines.{lines_of, AreWhole}
use Rattle.sb_app.specs.Lines.{form_of, script_line, script_lines}
use Rattle.sb_app.specs.Jumps.{is_far_ahead, jump_line, AllWithin, IsWithin}
use Rattle.sb_app.specs.Held.{IsTooFar}
use Rattle.sb_app.specs.declared.jump.Jump.{Jump}
use Rattle.sb_input.specs.Taking.{Took, IsLong, AreFirst as AreFirstTaken, IsAhead as IsReadAhead}
use Rattle.sb_app.specs.Taking.{IsAhead, IsTaken, end_of_reading}
use Rattle.sb_input.specs.Readers.{pending_of, IsAt, ReadsLine}
use Rattle.sb_app.specs.Runs.{kind_of, states_left, replies_to, RunsSoFar, FollowLines}
use Rattle.sb_app.specs.Endings.{IsWritten, IsLineWritten, IsReplyCut, IsUndecided, IsAnswer, IsCause, IsBetween, IsCutAt, AreFirst, IsCutRun, entries_by}
use Rattle.sb_input.proofs.Splits.{took-none}
use Rattle.sb_input.proofs.Readings.{pending_fits, line_ahead}
use Rattle.sb_app.proofs.Follows.{followed_between, followed_last}
use Rattle.sb_input.proofs.Advances.{advances, first_lines as are_first}
use Rattle.sb_app.proofs.Advances.{said_push, within_push}

-- ---- what is written of a line

-- a whole line, or a front of it, by what the output took
pub line_written : {E : Type 0} (line bytes : List ℕ) (was now : Output) (r : Result (Unit {0}) E) → bytes ≡ line → OnOk r (Gains was.given now.given bytes) → OnErr r (GainsPart was.given now.given bytes) → OnOk r (now.faults ≡ was.faults) → OnErr r (RoseByOne was.faults now.faults) → IsLineWritten line was now
line_written line bytes was now (Ok u) is gains part same rose = record { part = line; is = inl (refl, same); written = subst (Gains was.given now.given) is gains }
line_written line bytes was now (Err e) is gains part same rose = front_written was.given (subst (GainsPart was.given now.given) is part)
  where
    front_written : (given : Option (List ℕ)) → GainsPart given now.given line → IsLineWritten line (record was { given = given }) now
    front_written None part = record { part = []; is = inr ((line, refl), rose); written = tt }
    front_written (Some before) part = record {
      part = take part.0 line;
      is = inr ((drop part.0 line, sym (take-append-drop part.0 line)), rose);
      written = part.1;
    }

pub reply_cut : (line : List ℕ) (was now : Output) → GainsPart was.given now.given line → RoseByOne was.faults now.faults → IsReplyCut line was now WriteFault
reply_cut line was now part rose = by_given was.given part
  where
    by_given : (given : Option (List ℕ)) → GainsPart given now.given line → IsReplyCut line (record was { given = given }) now WriteFault
    by_given None part = ([], (line, refl), tt, rose)
    by_given (Some before) part = (take part.0 line, (drop part.0 line, sym (take-append-drop part.0 line)), part.1, rose)

-- ---- at a line

-- its answer's line wasn't written, or in part
pub reply_cut_at : (s after : State) (x : ScriptLine) (tick : Option ℕ) (answer : Result Answered Refusal) (was now : Output) (end : RunEnd) → IsAnswer s x tick answer → is_fault answer ≡ false → after ≡ state_after s (entries_by x tick answer) → IsReplyCut (answer_line (form_of x) answer) was now end → IsCutAt s x was now after end
reply_cut_at s after x tick answer was now WriteFault is sound leads cut = record {
  tick = tick;
  answer = answer;
  is = is;
  part = cut.0;
  cause = (sound, cut.1, cut.3);
  written = cut.2;
  leads = leads;
}
reply_cut_at s after x tick answer was now OutOfMemory is sound leads cut = record {
  tick = tick;
  answer = answer;
  is = is;
  part = [];
  cause = inr (sound, refl, cut.1);
  written = cut.0;
  leads = leads;
}
reply_cut_at s after x tick answer was now ReadFault is sound leads cut = absurd cut
reply_cut_at s after x tick answer was now DiskFault is sound leads cut = absurd cut
reply_cut_at s after x tick answer was now LongInput is sound leads cut = absurd cut
reply_cut_at s after x tick answer was now TimeJump is sound leads cut = absurd cut

-- the refusal of a key at fault is the machine's
sound_key : (part : Option ℕ) (key : List ℕ) → is_fault (Err (at_part_or_whole part (BadCall key))) ≡ false
sound_key None key = refl
sound_key (Some i) key = refl

-- the same of a line that is no call
pub malformed_cut : (s : State) (x : ScriptLine) (part : Option ℕ) (key : List ℕ) (was now : Output) (end : RunEnd) → x ≡ Malformed part key → IsReplyCut (answer_line Plain (Err (at_part_or_whole part (BadCall key)))) was now end → IsCutAt s x was now s end
malformed_cut s x part key was now end is cut =
    subst (λ (y : ScriptLine). IsCutAt s y was now s end) (sym is) (reply_cut_at s s (Malformed part key) None (Err (at_part_or_whole part (BadCall key))) was now end (refl, refl) (sound_key part key) refl cut)

-- a step of a running node
pub step_at : (s after : State) (before stopped tick : Option ℕ) (asked : TimedCall) (form : Form) (a : Result Answered Refusal) → before ≡ None → IfSome tick (λ t. t ≡ moment_of s asked.reading) → IsStep (log_of s before) (entries_with tick 0 asked.reading asked.call a) (log_of after stopped)
    → (is_spared (moment_of s asked.reading) asked.call (ticked_to tick s) ≡ true → a ≢ Err WantsMemory) → IsAnswer s (Request asked form) tick a × (after ≡ state_after s (entries_by (Request asked form) tick a))
step_at s after before stopped tick asked form a running at step free =
    let step' : IsStep (fresh_log s) (entries_with tick 0 asked.reading asked.call a) (log_of after stopped) = subst (λ (o : Option ℕ). IsStep (log_of s o) (entries_with tick 0 asked.reading asked.call a) (log_of after stopped)) running step in
    ((at, step'.legal, step_spares tick (fresh_log s) 0 asked.reading asked.call a at step'.legal free), ap (λ (l : Log). l.state) step'.leads)

-- an answer of another kind is no failed disk
pub not_failed : (a : Result Answered Refusal) (kind : AnswerKind) → kind_of a ≡ kind → (kind ≡ Failed → ⊥) → a ≡ Err FailedDisk → ⊥
not_failed a kind is other failed = other (sym is ∙ ap kind_of failed)

pub wanting_answer : (a : Result Answered Refusal) → kind_of a ≡ Wanting → a ≡ Err WantsMemory
wanting_answer (Ok reply) is = absurd cc
wanting_answer (Err r) is = ap Err (by_refusal r is)
  where
    by_refusal : (r : Refusal) → kind_of (Err r) ≡ Wanting → r ≡ WantsMemory
    by_refusal WantsMemory is = refl
    by_refusal FailedDisk is = absurd cc
    by_refusal (Stopped n) is = absurd cc
    by_refusal _ is = absurd cc

-- a running node doesn't answer that it has stopped
pub failed_answer : (a : Result Answered Refusal) (stopped : Option ℕ) → stopped ≡ None → ((n : ℕ) → a ≡ Err (Stopped n) → stopped ≡ Some n) → kind_of a ≡ Failed → a ≡ Err FailedDisk
failed_answer (Ok reply) stopped running only is = absurd cc
failed_answer (Err r) stopped running only is = ap Err (by_refusal r (λ n e. only n (ap Err e)) is)
  where
    by_refusal : (r : Refusal) → ((n : ℕ) → r ≡ Stopped n → stopped ≡ Some n) → kind_of (Err r) ≡ Failed → r ≡ FailedDisk
    by_refusal FailedDisk only is = refl
    by_refusal (Stopped n) only is = let other : None ≡ Some n = sym running ∙ only n refl in absurd cc
    by_refusal WantsMemory only is = absurd cc
    by_refusal _ only is = absurd cc

pub disk_cut : (s after : State) (asked : TimedCall) (form : Form) (tick : Option ℕ) (a : Result Answered Refusal) (line : List ℕ) (was now : Output) → a ≡ Err FailedDisk → line ≡ answer_line Plain (Err FailedDisk) → IsLineWritten line was now → IsAnswer s (Request asked form) tick a → after ≡ state_after s (entries_by (Request asked form) tick a)
    → IsCutAt s (Request asked form) was now after DiskFault
disk_cut s after asked form tick a line was now failed is written allowed leads = record {
  tick = tick;
  answer = a;
  is = allowed;
  part = written.part;
  cause = (failed, subst (λ (l : List ℕ). IsWritten l written.part was.faults now.faults) (is ∙ ap (λ (x : Result Answered Refusal). answer_line form x) (sym failed)) written.is);
  written = written.written;
  leads = leads;
}

pub memory_cut : (s after : State) (asked : TimedCall) (form : Form) (tick : Option ℕ) (a : Result Answered Refusal) (line : List ℕ) (was now : Output) → a ≡ Err WantsMemory → line ≡ answer_line Plain (Err WantsMemory) → IsLineWritten line was now → IsAnswer s (Request asked form) tick a → after ≡ state_after s (entries_by (Request asked form) tick a)
    → IsCutAt s (Request asked form) was now after OutOfMemory
memory_cut s after asked form tick a line was now wants is written allowed leads = record {
  tick = tick;
  answer = a;
  is = allowed;
  part = written.part;
  cause = inl (wants, subst (λ (l : List ℕ). IsWritten l written.part was.faults now.faults) (is ∙ ap (λ (x : Result Answered Refusal). answer_line form x) (sym wants)) written.is);
  written = written.written;
  leads = leads;
}

-- ---- the first lines of an input

said_first : (start : Option (List ℕ)) (next : List ℕ) → AreFirstTaken start (lines_of next) → AreFirst start (script_lines next)
said_first None next first = tt
said_first (Some all) next first = (map script_line first.0, ap (map script_line) first.1 ∙ map-append script_line (lines_of next) first.0)

-- whole lines, or all of an input, are its first
pub first_lines : (start left : Option (List ℕ)) (input next : List ℕ) (r : Reader) → IsAt start input left r → input ≡ next ++ pending_of r → AreWhole next ⊎ ((r.ended ≡ true) × (pending_of r ≡ [])) → AreFirst start (script_lines next)
first_lines start left input next r at split goes = said_first start next (are_first start left input next r at split goes)

-- ---- what was taken

-- behind whole lines
pub taken_behind : (was now : Input) (done pending input more : List ℕ) (end : RunEnd) → input ≡ done ++ pending → Took was.left now.left (input ++ more) → IsAhead end (pending ++ more) → IsTaken was now (script_lines done) end
taken_behind was now done pending input more end split took is_ahead = record {
  answered = done;
  ahead = pending ++ more;
  took = subst (Took was.left now.left) (ap (λ (l : List ℕ). l ++ more) split ∙ append_assoc done pending more) took;
  says = refl;
  is_ahead = is_ahead;
}

-- nothing
nothing_taken : (input : Input) → IsTaken input input [] OutOfMemory
nothing_taken input = record {
  answered = [];
  ahead = [];
  took = took-none input.left;
  says = refl;
  is_ahead = record { line = []; rest = []; split = refl; no_feed = tt; fits = omega arith };
}

ahead_at : (form : Form) (end : RunEnd) (answer : Result Answered Refusal) (part : List ℕ) (before now : ℕ) (r : Reader) → IsCause form end answer part before now → IsAhead end (pending_of r)
ahead_at form ReadFault answer part before now r cause = absurd cause
ahead_at form WriteFault answer part before now r cause = pending_fits r
ahead_at form DiskFault answer part before now r cause = pending_fits r
ahead_at form OutOfMemory answer part before now r cause = record {
  line = [];
  rest = pending_of r;
  split = refl;
  no_feed = tt;
  fits = omega (arith, pending_fits r);
}
ahead_at form LongInput answer part before now r cause = absurd cause
ahead_at form TimeJump answer part before now r cause = absurd cause

-- ---- the run

-- between two lines
pub cut_between : (clock : ℕ → Type 0) (days : ℕ) (Safe : Type 0) (s state : State) (was now : Outside) (left : Option (List ℕ)) (r : Reader) (refused : Bool) (end : RunEnd) (so_far : RunsSoFar s was.input.left left was.output.given now.output.given r state refused) → (Safe → FollowLines s (script_lines so_far.done) was.disks now.disks) → AllWithin clock days (script_lines so_far.done)
    → IsBetween end [] was.output.faults now.output.faults → end ≢ TimeJump → IsTaken was.input now.input (script_lines so_far.done) end → (end ≡ LongInput → IsLong was.input.left now.input.left) → IsCutRun clock days Safe s was now state end
cut_between clock days Safe s state was now left r refused end so_far moments within between other taken long = record {
  lines = script_lines so_far.done;
  last = None;
  first = subst (AreFirst was.input.left) (sym (append-nil (script_lines so_far.done))) (first_lines was.input.left left so_far.input so_far.done r so_far.at so_far.split (inl so_far.whole));
  taken = subst (λ (l : List ScriptLine). IsTaken was.input now.input l end) (sym (append-nil (script_lines so_far.done))) taken;
  within = subst (AllWithin clock days) (sym (append-nil (script_lines so_far.done))) within;
  long = long;
  part = [];
  ends = between;
  jump = λ is. absurd (other is);
  written = subst (Gains was.output.given now.output.given) (sym (append-nil (replies_to s (script_lines so_far.done)))) so_far.written;
  leads = so_far.leads;
  undecided = λ safe failed. tt;
  moments = λ safe. followed_between s (script_lines so_far.done) was.disks now.disks (moments safe);
}

-- before any line
pub cut_at_once : (clock : ℕ → Type 0) (days : ℕ) (Safe : Type 0) (s : State) (was : Outside) → IsCutRun clock days Safe s was was s OutOfMemory
cut_at_once clock days Safe s was = record {
  lines = [];
  last = None;
  first = no_lines was.input.left;
  taken = nothing_taken was.input;
  within = tt;
  long = λ e. absurd cc;
  part = [];
  ends = (refl, refl);
  jump = λ e. absurd cc;
  written = gains-none was.output.given;
  leads = refl;
  undecided = λ safe failed. tt;
  moments = λ safe. followed_between s [] was.disks was.disks refl;
}
  where
    no_lines : (left : Option (List ℕ)) → AreFirst left []
    no_lines None = tt
    no_lines (Some all) = (script_lines all, refl)

not_long : (form : Form) (end : RunEnd) (answer : Result Answered Refusal) (part : List ℕ) (before now : ℕ) (P : Type 0) → IsCause form end answer part before now → end ≡ LongInput → P
not_long form LongInput answer part before now P cause e = absurd cause
not_long form ReadFault answer part before now P cause e = absurd cause
not_long form WriteFault answer part before now P cause e = absurd cc
not_long form DiskFault answer part before now P cause e = absurd cc
not_long form OutOfMemory answer part before now P cause e = absurd cc
not_long form TimeJump answer part before now P cause e = absurd cc

no_jump : (form : Form) (end : RunEnd) (answer : Result Answered Refusal) (part : List ℕ) (before now : ℕ) (P : Type 0) → IsCause form end answer part before now → end ≡ TimeJump → P
no_jump form LongInput answer part before now P cause e = absurd cc
no_jump form ReadFault answer part before now P cause e = absurd cc
no_jump form WriteFault answer part before now P cause e = absurd cc
no_jump form DiskFault answer part before now P cause e = absurd cc
no_jump form OutOfMemory answer part before now P cause e = absurd cc
no_jump form TimeJump answer part before now P cause e = absurd cause

-- at one line more
pub cut_at_line : (clock : ℕ → Type 0) (days : ℕ) (Safe : Type 0) (s state after : State) (was on now : Outside) (r next : Reader) (refused : Bool) (end : RunEnd) (partial : PartialLine) (x : ScriptLine) (so_far : RunsSoFar s was.input.left on.input.left was.output.given on.output.given r state refused)
    → (reads : ReadsLine was.input.left so_far.input (pending_of r) now.input.left next partial) → x ≡ script_line reads.line → IsCutAt state x on.output now.output after end → on.output.faults ≡ was.output.faults → (Safe → end ≡ DiskFault → IsOneOf now.disks (states_left state x))
    → (Safe → FollowLines s (script_lines so_far.done) was.disks on.disks) → (Safe → StayOneOf on.disks now.disks (states_left state x)) → AllWithin clock days (script_lines so_far.done) → IsWithin clock days x → IsCutRun clock days Safe s was now after end
cut_at_line clock days Safe s state after was on now r next refused end partial x so_far reads says cut same undecided moments more within is =
    let adv = advances so_far.input so_far.done (pending_of r) reads.more reads.line next so_far.split so_far.whole reads.no_feed reads.next in
    let all : script_lines adv.next ≡ script_lines so_far.done ++ x ∷ [] = said_push so_far.done adv.next reads.line adv.says ∙ ap (λ y. script_lines so_far.done ++ y ∷ []) (sym says) in
    record {
      lines = script_lines so_far.done;
      last = Some (record { line = x; tick = cut.tick; answer = cut.answer });
      first = subst (AreFirst was.input.left) all (first_lines was.input.left now.input.left (so_far.input ++ reads.more) adv.next next reads.at adv.split adv.goes);
      taken = record {
        answered = adv.next;
        ahead = pending_of next;
        took = subst (Took was.input.left now.input.left) adv.split reads.at.took;
        says = all;
        is_ahead = ahead_at (form_of x) end cut.answer cut.part on.output.faults now.output.faults next cut.cause;
      };
      within = within_push clock days (script_lines so_far.done) x within is;
      long = not_long (form_of x) end cut.answer cut.part on.output.faults now.output.faults (IsLong was.input.left now.input.left) cut.cause;
      part = cut.part;
      ends = (subst (λ (y : State). IsAnswer y x cut.tick cut.answer) so_far.leads cut.is, subst (λ n. IsCause (form_of x) end cut.answer cut.part n now.output.faults) same cut.cause);
      jump = no_jump (form_of x) end cut.answer cut.part on.output.faults now.output.faults _ cut.cause;
      written = gains-gains was.output.given on.output.given now.output.given (replies_to s (script_lines so_far.done)) cut.part so_far.written cut.written;
      leads = cut.leads ∙ ap (λ (y : State). state_after y (entries_by x cut.tick cut.answer)) so_far.leads;
      undecided = λ safe failed. subst (λ (y : State). IsUndecided now.disks y (Some (record { line = x; tick = cut.tick; answer = cut.answer }))) so_far.leads (undecided safe failed);
      moments = λ safe. followed_last s state (script_lines so_far.done) x was.disks on.disks now.disks so_far.leads (moments safe) (more safe);
    }

-- before a line that is too far ahead of the clock
pub cut_before : (clock : ℕ → Type 0) (days : ℕ) (Safe : Type 0) (s state : State) (was on now : Outside) (r next : Reader) (refused : Bool) (partial : PartialLine) (x : ScriptLine) (jump : Jump) (so_far : RunsSoFar s was.input.left on.input.left was.output.given on.output.given r state refused)
    → (reads : ReadsLine was.input.left so_far.input (pending_of r) now.input.left next partial) → x ≡ script_line reads.line → IsTooFar clock days x jump → IsLineWritten (jump_line jump.moment jump.reading) on.output now.output → on.output.faults ≡ was.output.faults
    → (Safe → FollowLines s (script_lines so_far.done) was.disks now.disks) → AllWithin clock days (script_lines so_far.done) → IsCutRun clock days Safe s was now state TimeJump
cut_before clock days Safe s state was on now r next refused partial x jump so_far reads says far told same moments within =
    let adv = advances so_far.input so_far.done (pending_of r) reads.more reads.line next so_far.split so_far.whole reads.no_feed reads.next in
    let all : script_lines adv.next ≡ script_lines so_far.done ++ Request far.asked far.form ∷ [] = said_push so_far.done adv.next reads.line adv.says ∙ ap (λ y. script_lines so_far.done ++ y ∷ []) (sym says ∙ far.is) in
    let none = sym (append-nil (script_lines so_far.done)) in
    record {
      lines = script_lines so_far.done;
      last = None;
      first = subst (AreFirst was.input.left) none (first_lines was.input.left on.input.left so_far.input so_far.done r so_far.at so_far.split (inl so_far.whole));
      taken = subst (λ (l : List ScriptLine). IsTaken was.input now.input l TimeJump) none
          (taken_behind was.input now.input so_far.done (pending_of r) so_far.input reads.more TimeJump so_far.split reads.at.took (line_ahead _ reads.line next reads.no_feed reads.next));
      within = subst (AllWithin clock days) none within;
      long = λ e. absurd cc;
      part = told.part;
      ends = tt;
      jump = λ e. record {
        asked = far.asked;
        form = far.form;
        next = subst (AreFirst was.input.left) all (first_lines was.input.left now.input.left (so_far.input ++ reads.more) adv.next next reads.at adv.split adv.goes);
        reading = jump.reading;
        read = far.read;
        far = subst (λ (m : ℕ). is_far_ahead days jump.reading m ≡ true) far.at far.far;
        told = subst (λ (n : ℕ). IsWritten (jump_line far.asked.reading jump.reading) told.part n now.output.faults) same (subst (λ (m : ℕ). IsWritten (jump_line m jump.reading) told.part on.output.faults now.output.faults) far.at told.is);
      };
      written = gains-gains was.output.given on.output.given now.output.given (replies_to s (script_lines so_far.done)) told.part so_far.written told.written;
      leads = so_far.leads;
      undecided = λ safe failed. tt;
      moments = λ safe. followed_between s (script_lines so_far.done) was.disks now.disks (moments safe);
    }

pub reading_between : (e : ReadEnd) (before now : ℕ) → now ≡ before → IsBetween (end_of_reading e) [] before now
reading_between Fault before now same = (refl, same)
reading_between NoMemory before now same = (refl, same)
reading_between TooMuch before now same = (refl, same)

pub reading_no_jump : (e : ReadEnd) → end_of_reading e ≢ TimeJump
reading_no_jump Fault is = absurd cc
reading_no_jump NoMemory is = absurd cc
reading_no_jump TooMuch is = absurd cc

pub reading_long : (e : ReadEnd) → end_of_reading e ≡ LongInput → e ≡ TooMuch
reading_long Fault is = absurd cc
reading_long NoMemory is = absurd cc
reading_long TooMuch is = refl

-- how far was read ahead of a line that didn't come
pub reading_ahead : (e : ReadEnd) (ahead : List ℕ) → IsReadAhead e ahead → IsAhead (end_of_reading e) ahead
reading_ahead Fault ahead is = is
reading_ahead NoMemory ahead is = is
reading_ahead TooMuch ahead is = is
