-- What stands in acts as one of several: how a copy is named, what becomes of it, what a rule asks.
use Rattle.sb_machine.specs.declared.call.FilterText.{FilterText}
use Rattle.sb_machine.specs.declared.call.FilterText.TheVariants.{Sql, Correlation}
use Rattle.sb_machine.specs.declared.call.How.{How}
use Rattle.sb_machine.specs.declared.call.How.TheVariants.{Complete, Abandon, Defer, DeadLetter}
use Rattle.sb_machine.specs.declared.call.Which.{Which}
use Rattle.sb_machine.specs.declared.call.Which.TheVariants.{Number, Id}
use Rattle.sb_codec.specs.Forms.{Form, number64, text, empty, ◌then◌, optional, Row, row, Case, of, Choice, no_row, ◌or◌, variants}
use Rattle.sb_codec.specs.Messages.{conditions}

-- ---- which copy

abbrev pub number_row : Row Which
number_row = row 0 number64 (λ n. Number n)

abbrev pub id_row : Row Which
id_row = row 1 text (λ t. Id t)

-- how a message is named, by its number or its id, as code and bytes
abbrev pub which_case : Which → Case
which_case (Number n) = of number_row n
which_case (Id t) = of id_row t

-- what is read behind each code of these
abbrev pub which_choice : Choice Which
which_choice = number_row or id_row or no_row

-- the form of how a message is named
unfoldable pub which : Form Which
which = variants which_case which_choice

-- ---- what becomes of it

abbrev pub complete : Row How
complete = row 0 empty (λ _. Complete)

abbrev pub abandon : Row How
abandon = row 1 empty (λ _. Abandon)

abbrev pub defer : Row How
defer = row 2 empty (λ _. Defer)

abbrev pub dead_letter : Row How
dead_letter = row 3 (optional text then optional text) (λ x. DeadLetter x.0 x.1)

-- what becomes of a message that is settled, as code and bytes
abbrev pub how_case : How → Case
how_case Complete = of complete tt
how_case Abandon = of abandon tt
how_case Defer = of defer tt
how_case (DeadLetter reason description) = of dead_letter (reason, description)

-- what is read behind each code of these
abbrev pub how_choice : Choice How
how_choice = complete or abandon or defer or dead_letter or no_row

-- the form of what becomes of a message that is settled
unfoldable pub how : Form How
how = variants how_case how_choice

-- ---- what a rule's filter is

abbrev pub sql : Row FilterText
sql = row 0 text (λ t. Sql t)

abbrev pub correlation : Row FilterText
correlation = row 1 conditions (λ c. Correlation c)

-- what a rule asks, as code and bytes
abbrev pub filter_text_case : FilterText → Case
filter_text_case (Sql t) = of sql t
filter_text_case (Correlation c) = of correlation c

-- what is read behind each code of these
abbrev pub filter_text_choice : Choice FilterText
filter_text_choice = sql or correlation or no_row

-- the form of what a rule asks
unfoldable pub filter_text : Form FilterText
filter_text = variants filter_text_case filter_text_choice
