-- The pieces of the text that who gathers numbers reads (Prometheus, Exposition formats, "Text-based format").
use Rattle.std.specs.Prelude.{ℕ, List, ◌++◌, codes}
use Rattle.std.specs.Fmt.{decimal}

-- what a metric is
unfoldable pub help_line : List ℕ → List ℕ → List ℕ
help_line name help = codes "# HELP " ++ name ++ codes " " ++ help ++ codes "\n"

-- of which type it is
unfoldable pub type_line : List ℕ → List ℕ → List ℕ
type_line name kind = codes "# TYPE " ++ name ++ codes " " ++ kind ++ codes "\n"

-- both
unfoldable pub about : List ℕ → List ℕ → List ℕ → List ℕ
about name kind help = help_line name help ++ type_line name kind

-- the first label of a line; a value has no letter that needs an escape in quotes
unfoldable pub first_label : List ℕ → List ℕ → List ℕ → List ℕ
first_label name key value = name ++ codes "{" ++ key ++ codes "=\"" ++ value ++ codes "\""

-- one more
unfoldable pub label : List ℕ → List ℕ → List ℕ
label name value = codes "," ++ name ++ codes "=\"" ++ value ++ codes "\""

-- its value, which ends the line
unfoldable pub value_text : List ℕ → List ℕ
value_text value = codes "} " ++ value ++ codes "\n"

-- a line with one label
unfoldable pub labelled_line : List ℕ → List ℕ → List ℕ → ℕ → List ℕ
labelled_line name key value n = first_label name key value ++ value_text (decimal n)

-- a line without labels
unfoldable pub bare_line : List ℕ → ℕ → List ℕ
bare_line name n = name ++ codes " " ++ decimal n ++ codes "\n"

-- a metric that has that line alone
unfoldable pub lone_text : List ℕ → List ℕ → List ℕ → ℕ → List ℕ
lone_text name kind help n = about name kind help ++ bare_line name n
