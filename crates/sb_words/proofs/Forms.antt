-- From what `clap` answers to the form that the words are.
use Rattle.std.proofs.Common.{◌≡◌, ◌≢◌, inl, inr, List, [], ◌∷◌, true, false, Option, Some, None, Result, Ok, Err, refl, sym, ◌∙◌, ap, ap₂, subst, arith}
use Rattle.std.specs.Prelude.{◌&&◌, ◌≤◌, ℕ, Bool, length, map, nat_le, option_map, IfOk}
use Rattle.std.specs.Borrow.{Bor}
use Rattle.std.specs.List.{list_all}
use Rattle.std.proofs.lemmas.List.{length-map}
use Rattle.std.proofs.lemmas.List.Folds.{list_all-map}
use Rattle.std.proofs.lemmas.Bool.Decides.{nat_tests}
use Rattle.std.specs.declared.alloc.AllocError.{AllocError}
use Rattle.clap.specs.Words.{App, FailsBy, HasKind, HasMatchesOf, IsAmong, is_simple_and_free, Kinds, Text, fault_of, is_simple, kind_of, rows_of, subcommand_of, subcommand_rows_of}
use Rattle.clap.specs.declared.error.Error.{Error}
use Rattle.clap.specs.declared.error.kind.ErrorKind.{ErrorKind}
use Rattle.clap.specs.declared.error.kind.ErrorKind.TheVariants.{OutOfMemory}
use Rattle.clap.specs.declared.parser.matches.ArgMatches.{ArgMatches}
use Rattle.clap.specs.declared.parser.matches.Found.{Found}
use Rattle.clap.proofs.OnLiterals.{clap_on_literals}
use Rattle.sb_words.specs.declared.command.Command.{Command}
use Rattle.sb_words.specs.declared.command.Form.{Form as ReadForm}
use Rattle.sb_words.specs.Words.{Form, are_hosts, asks_for_text, form_value, command_named, form_at, form_by, form_in, is_host, program, unless_at_fault}

-- ---- a form

-- the form by the options of a command
pub form_named : (name : Text) (command : Command) (found : Found) (form : Option Form) → Some command ≡ command_named name → form ≡ form_by (Some command) (rows_of found) → form ≡ form_at (Some (name, rows_of found))
form_named name command found form named is = is ∙ ap (λ (o : Option Command). form_by o (rows_of found)) named

-- the same where memory may have been wanting
pub named_or_not : (name : Text) (command : Command) (found : Found) (result : Result (Option ReadForm) AllocError) → Some command ≡ command_named name → IfOk result (λ form. option_map form_value form ≡ form_by (Some command) (rows_of found)) → IfOk result (λ form. option_map form_value form ≡ form_at (Some (name, rows_of found)))
named_or_not name command found (Ok form) named is = form_named name command found (option_map form_value form) named is
named_or_not name command found (Err e) named is = tt

-- ---- the words

is_simple_program : is_simple program ≡ true
unfolding clap_on_literals
is_simple_program = refl

free_program : is_simple_and_free program ≡ true
unfolding clap_on_literals
free_program = refl

-- how a parse at this program fails
pub fails : (app : App) (words : List Text) (result : Result ArgMatches Error) → app ≡ program → (is_simple_and_free app ≡ true → FailsBy (fault_of app words) result) → FailsBy (fault_of program words) result
fails app words result is kinds = subst (λ (a : App). is_simple_and_free a ≡ true → FailsBy (fault_of a words) result) is kinds free_program

at_fault : (kinds : Kinds) (kind : ErrorKind) (form : Option Form) → IsAmong kind kinds → unless_at_fault kinds form ≡ None
at_fault [] kind form is = absurd is
at_fault (x ∷ xs) kind form is = refl

pub refused : (words : List Text) (error : Error) → HasKind (fault_of program words) error → kind_of error ≢ OutOfMemory → form_in words ≡ None
unfolding form_in
refused words error (inl memory) other = absurd (other memory)
refused words error (inr is) other = at_fault (fault_of program words) (kind_of error) (form_at (subcommand_of program words)) is

pub taken : (words : List Text) (matches : ArgMatches) → fault_of program words ≡ [] → HasMatchesOf program words matches → form_in words ≡ form_at (subcommand_rows_of matches)
unfolding form_in
taken words matches none found = ap₂ unless_at_fault none (ap form_at (sym (found is_simple_program).1))

-- ---- help and the version

pub asked_refused : (words : List Text) (error : Error) → HasKind (fault_of program words) error → asks_for_text (kind_of error) ≡ true → form_in words ≡ None
asked_refused words error fault asks = refused words error fault (λ memory. let no : asks_for_text (kind_of error) ≡ false = ap asks_for_text memory in absurd cc)

-- ---- names of hosts

few : (n : ℕ) → n ≤ 8 → nat_le n 8 ≡ true
few n fits = grind (arith, nat_tests)

-- where there are few enough, each decides
pub each_host : (names : List (Bor Text)) (all : Bool) → length names ≤ 8 → all ≡ list_all (λ (n : Bor Text). is_host n.now) names → all ≡ are_hosts (map (λ (n : Bor Text). n.now) names)
each_host names all fits each =
    let rest : Bool = list_all is_host (map (λ (n : Bor Text). n.now) names) in
    let count : nat_le (length (map (λ (n : Bor Text). n.now) names)) 8 ≡ true = ap (λ n. nat_le n 8) (length-map names (λ (n : Bor Text). n.now)) ∙ few (length names) fits in
    each ∙ sym (list_all-map is_host (λ (n : Bor Text). n.now) names) ∙ sym (ap (λ t. t && rest) count)
