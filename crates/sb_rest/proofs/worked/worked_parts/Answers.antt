use Rattle.std.proofs.Common.{refl}
use Rattle.std.specs.Float.Ieee as Ieee
use Rattle.std.specs.Str.{is_utf8, chars}
use Rattle.serde_json.proofs.OnLiterals.{serde_json_on_literals}
use Rattle.sb_rest.specs.Values.{header_value}
use Rattle.sb_rest.specs.Lifetimes.{minutes_in, hours_in, span_in}
use Rattle.sb_rest.specs.Brokers.{broker_of}
use Rattle.sb_rest.specs.Batches.{is_media_type, message_of}
use Rattle.sb_rest.proofs.worked.worked_parts.Goals as goal

pub returns-clause-half_a_second : goal.returns-clause-half_a_second
unfolding is_utf8 chars lib.Utf8.encode serde_json_on_literals Ieee.eq Ieee.of_int Ieee.to_unsigned Ieee.round Ieee.units Ieee.span Ieee.climb Ieee.size Ieee.odd header_value broker_of is_media_type message_of minutes_in hours_in span_in
returns-clause-half_a_second c = refl

pub returns-clause-no_object : goal.returns-clause-no_object
unfolding is_utf8 chars lib.Utf8.encode serde_json_on_literals Ieee.eq Ieee.of_int Ieee.to_unsigned Ieee.round Ieee.units Ieee.span Ieee.climb Ieee.size Ieee.odd header_value broker_of is_media_type message_of minutes_in hours_in span_in
returns-clause-no_object c = refl

pub returns-clause-number : goal.returns-clause-number
unfolding is_utf8 chars lib.Utf8.encode serde_json_on_literals Ieee.eq Ieee.of_int Ieee.to_unsigned Ieee.round Ieee.units Ieee.span Ieee.climb Ieee.size Ieee.odd header_value broker_of is_media_type message_of minutes_in hours_in span_in
returns-clause-number c = refl

pub returns-clause-zeros : goal.returns-clause-zeros
unfolding is_utf8 chars lib.Utf8.encode serde_json_on_literals Ieee.eq Ieee.of_int Ieee.to_unsigned Ieee.round Ieee.units Ieee.span Ieee.climb Ieee.size Ieee.odd header_value broker_of is_media_type message_of minutes_in hours_in span_in
returns-clause-zeros c = refl

pub returns-clause-signed : goal.returns-clause-signed
unfolding is_utf8 chars lib.Utf8.encode serde_json_on_literals Ieee.eq Ieee.of_int Ieee.to_unsigned Ieee.round Ieee.units Ieee.span Ieee.climb Ieee.size Ieee.odd header_value broker_of is_media_type message_of minutes_in hours_in span_in
returns-clause-signed c = refl

pub returns-clause-quoted : goal.returns-clause-quoted
unfolding is_utf8 chars lib.Utf8.encode serde_json_on_literals Ieee.eq Ieee.of_int Ieee.to_unsigned Ieee.round Ieee.units Ieee.span Ieee.climb Ieee.size Ieee.odd header_value broker_of is_media_type message_of minutes_in hours_in span_in
returns-clause-quoted c = refl

pub returns-clause-one_quote : goal.returns-clause-one_quote
unfolding is_utf8 chars lib.Utf8.encode serde_json_on_literals Ieee.eq Ieee.of_int Ieee.to_unsigned Ieee.round Ieee.units Ieee.span Ieee.climb Ieee.size Ieee.odd header_value broker_of is_media_type message_of minutes_in hours_in span_in
returns-clause-one_quote c = refl

pub returns-clause-batch : goal.returns-clause-batch
unfolding is_utf8 chars lib.Utf8.encode serde_json_on_literals Ieee.eq Ieee.of_int Ieee.to_unsigned Ieee.round Ieee.units Ieee.span Ieee.climb Ieee.size Ieee.odd header_value broker_of is_media_type message_of minutes_in hours_in span_in
returns-clause-batch c = refl

pub returns-clause-no_array : goal.returns-clause-no_array
unfolding is_utf8 chars lib.Utf8.encode serde_json_on_literals Ieee.eq Ieee.of_int Ieee.to_unsigned Ieee.round Ieee.units Ieee.span Ieee.climb Ieee.size Ieee.odd header_value broker_of is_media_type message_of minutes_in hours_in span_in
returns-clause-no_array c = refl

pub returns-clause-batch_type : goal.returns-clause-batch_type
unfolding is_utf8 chars lib.Utf8.encode serde_json_on_literals Ieee.eq Ieee.of_int Ieee.to_unsigned Ieee.round Ieee.units Ieee.span Ieee.climb Ieee.size Ieee.odd header_value broker_of is_media_type message_of minutes_in hours_in span_in
returns-clause-batch_type c = refl

pub returns-clause-whole : goal.returns-clause-whole
unfolding is_utf8 chars lib.Utf8.encode serde_json_on_literals Ieee.eq Ieee.of_int Ieee.to_unsigned Ieee.round Ieee.units Ieee.span Ieee.climb Ieee.size Ieee.odd header_value broker_of is_media_type message_of minutes_in hours_in span_in
returns-clause-whole c = refl

pub returns-clause-span : goal.returns-clause-span
unfolding is_utf8 chars lib.Utf8.encode serde_json_on_literals Ieee.eq Ieee.of_int Ieee.to_unsigned Ieee.round Ieee.units Ieee.span Ieee.climb Ieee.size Ieee.odd header_value broker_of is_media_type message_of minutes_in hours_in span_in
returns-clause-span c = refl

pub returns-clause-days : goal.returns-clause-days
unfolding is_utf8 chars lib.Utf8.encode serde_json_on_literals Ieee.eq Ieee.of_int Ieee.to_unsigned Ieee.round Ieee.units Ieee.span Ieee.climb Ieee.size Ieee.odd header_value broker_of is_media_type message_of minutes_in hours_in span_in
returns-clause-days c = refl

pub returns-clause-hour : goal.returns-clause-hour
unfolding is_utf8 chars lib.Utf8.encode serde_json_on_literals Ieee.eq Ieee.of_int Ieee.to_unsigned Ieee.round Ieee.units Ieee.span Ieee.climb Ieee.size Ieee.odd header_value broker_of is_media_type message_of minutes_in hours_in span_in
returns-clause-hour c = refl

pub returns-clause-one_digit : goal.returns-clause-one_digit
unfolding is_utf8 chars lib.Utf8.encode serde_json_on_literals Ieee.eq Ieee.of_int Ieee.to_unsigned Ieee.round Ieee.units Ieee.span Ieee.climb Ieee.size Ieee.odd header_value broker_of is_media_type message_of minutes_in hours_in span_in
returns-clause-one_digit c = refl

pub returns-clause-no_days : goal.returns-clause-no_days
unfolding is_utf8 chars lib.Utf8.encode serde_json_on_literals Ieee.eq Ieee.of_int Ieee.to_unsigned Ieee.round Ieee.units Ieee.span Ieee.climb Ieee.size Ieee.odd header_value broker_of is_media_type message_of minutes_in hours_in span_in
returns-clause-no_days c = refl

pub returns-clause-fraction : goal.returns-clause-fraction
unfolding is_utf8 chars lib.Utf8.encode serde_json_on_literals Ieee.eq Ieee.of_int Ieee.to_unsigned Ieee.round Ieee.units Ieee.span Ieee.climb Ieee.size Ieee.odd header_value broker_of is_media_type message_of minutes_in hours_in span_in
returns-clause-fraction c = refl

pub returns-clause-no_time : goal.returns-clause-no_time
unfolding is_utf8 chars lib.Utf8.encode serde_json_on_literals Ieee.eq Ieee.of_int Ieee.to_unsigned Ieee.round Ieee.units Ieee.span Ieee.climb Ieee.size Ieee.odd header_value broker_of is_media_type message_of minutes_in hours_in span_in
returns-clause-no_time c = refl

pub returns-clause-both_times : goal.returns-clause-both_times
unfolding is_utf8 chars lib.Utf8.encode serde_json_on_literals Ieee.eq Ieee.of_int Ieee.to_unsigned Ieee.round Ieee.units Ieee.span Ieee.climb Ieee.size Ieee.odd header_value broker_of is_media_type message_of minutes_in hours_in span_in
returns-clause-both_times c = refl

pub returns-clause-fraction_of_a_number : goal.returns-clause-fraction_of_a_number
unfolding is_utf8 chars lib.Utf8.encode serde_json_on_literals Ieee.eq Ieee.of_int Ieee.to_unsigned Ieee.round Ieee.units Ieee.span Ieee.climb Ieee.size Ieee.odd header_value broker_of is_media_type message_of minutes_in hours_in span_in
returns-clause-fraction_of_a_number c = refl

pub returns-clause-no_number : goal.returns-clause-no_number
unfolding is_utf8 chars lib.Utf8.encode serde_json_on_literals Ieee.eq Ieee.of_int Ieee.to_unsigned Ieee.round Ieee.units Ieee.span Ieee.climb Ieee.size Ieee.odd header_value broker_of is_media_type message_of minutes_in hours_in span_in
returns-clause-no_number c = refl

pub returns-clause-greatest : goal.returns-clause-greatest
unfolding is_utf8 chars lib.Utf8.encode serde_json_on_literals Ieee.eq Ieee.of_int Ieee.to_unsigned Ieee.round Ieee.units Ieee.span Ieee.climb Ieee.size Ieee.odd header_value broker_of is_media_type message_of minutes_in hours_in span_in
returns-clause-greatest c = refl

pub returns-clause-above : goal.returns-clause-above
unfolding is_utf8 chars lib.Utf8.encode serde_json_on_literals Ieee.eq Ieee.of_int Ieee.to_unsigned Ieee.round Ieee.units Ieee.span Ieee.climb Ieee.size Ieee.odd header_value broker_of is_media_type message_of minutes_in hours_in span_in
returns-clause-above c = refl

pub returns-clause-no_client : goal.returns-clause-no_client
unfolding is_utf8 chars lib.Utf8.encode serde_json_on_literals Ieee.eq Ieee.of_int Ieee.to_unsigned Ieee.round Ieee.units Ieee.span Ieee.climb Ieee.size Ieee.odd header_value broker_of is_media_type message_of minutes_in hours_in span_in
returns-clause-no_client c = refl
