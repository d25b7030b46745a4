use Rattle.std.proofs.Common.{refl}
use Rattle.std.specs.Fmt.{digits}
use Rattle.std.specs.Str.{chars}
use Rattle.httparse.specs.Grammar.{is_token_byte}
use Rattle.serde_json.proofs.OnLiterals.{serde_json_on_literals}
use Rattle.uuid.proofs.OnLiterals.{uuid_on_literals}
use Rattle.sb_lines.specs.Tokens.{token_text}
use Rattle.sb_rest.specs.Escapes.{escaped, ascii_json}
use Rattle.sb_rest.specs.Reserved.{is_reserved, is_hidden}
use Rattle.sb_rest.specs.Shown.{broker_text, location_text, stands}
use Rattle.sb_rest.proofs.worked.worked_responses.Goals as goal

pub returns-clause-broker : goal.returns-clause-broker
unfolding serde_json_on_literals uuid_on_literals token_text broker_text location_text is_reserved is_hidden escaped ascii_json chars stands is_token_byte digits
returns-clause-broker c = refl

pub returns-clause-location : goal.returns-clause-location
unfolding serde_json_on_literals uuid_on_literals token_text broker_text location_text is_reserved is_hidden escaped ascii_json chars stands is_token_byte digits
returns-clause-location c = refl

pub returns-clause-refused : goal.returns-clause-refused
unfolding serde_json_on_literals uuid_on_literals token_text broker_text location_text is_reserved is_hidden escaped ascii_json chars stands is_token_byte digits
returns-clause-refused c = refl

pub returns-clause-stopped : goal.returns-clause-stopped
unfolding serde_json_on_literals uuid_on_literals token_text broker_text location_text is_reserved is_hidden escaped ascii_json chars stands is_token_byte digits
returns-clause-stopped c = refl

pub returns-clause-property : goal.returns-clause-property
unfolding serde_json_on_literals uuid_on_literals token_text broker_text location_text is_reserved is_hidden escaped ascii_json chars stands is_token_byte digits
returns-clause-property c = refl

pub returns-clause-reserved : goal.returns-clause-reserved
unfolding serde_json_on_literals uuid_on_literals token_text broker_text location_text is_reserved is_hidden escaped ascii_json chars stands is_token_byte digits
returns-clause-reserved c = refl

pub returns-clause-umlaut : goal.returns-clause-umlaut
unfolding serde_json_on_literals uuid_on_literals token_text broker_text location_text is_reserved is_hidden escaped ascii_json chars stands is_token_byte digits
returns-clause-umlaut c = refl

pub returns-clause-pair : goal.returns-clause-pair
unfolding serde_json_on_literals uuid_on_literals token_text broker_text location_text is_reserved is_hidden escaped ascii_json chars stands is_token_byte digits
returns-clause-pair c = refl

pub returns-clause-delete : goal.returns-clause-delete
unfolding serde_json_on_literals uuid_on_literals token_text broker_text location_text is_reserved is_hidden escaped ascii_json chars stands is_token_byte digits
returns-clause-delete c = refl

pub returns-clause-same_umlaut : goal.returns-clause-same_umlaut
unfolding serde_json_on_literals uuid_on_literals token_text broker_text location_text is_reserved is_hidden escaped ascii_json chars stands is_token_byte digits
returns-clause-same_umlaut c = refl

pub returns-clause-same_smile : goal.returns-clause-same_smile
unfolding serde_json_on_literals uuid_on_literals token_text broker_text location_text is_reserved is_hidden escaped ascii_json chars stands is_token_byte digits
returns-clause-same_smile c = refl

pub returns-clause-escaped : goal.returns-clause-escaped
unfolding serde_json_on_literals uuid_on_literals token_text broker_text location_text is_reserved is_hidden escaped ascii_json chars stands is_token_byte digits
returns-clause-escaped c = refl

pub returns-clause-cookie : goal.returns-clause-cookie
unfolding serde_json_on_literals uuid_on_literals token_text broker_text location_text is_reserved is_hidden escaped ascii_json chars stands is_token_byte digits
returns-clause-cookie c = refl

pub returns-clause-proxy : goal.returns-clause-proxy
unfolding serde_json_on_literals uuid_on_literals token_text broker_text location_text is_reserved is_hidden escaped ascii_json chars stands is_token_byte digits
returns-clause-proxy c = refl

pub returns-clause-allow : goal.returns-clause-allow
returns-clause-allow c = refl

pub returns-clause-sent : goal.returns-clause-sent
unfolding digits
returns-clause-sent c = refl
