use Rattle.std.proofs.Common.{codes, refl, ◌∙◌}
use Rattle.std.specs.Str.{is_utf8, chars}
use Rattle.matchit.specs.Route.{scan}
use Rattle.matchit.specs.Seek.{param_step}
use Rattle.matchit.proofs.OnLiterals.{matchit_on_literals}
use Rattle.sb_routes.specs.Paths.{undollared, segment}
use Rattle.sb_routes.specs.Routes.{table, with_route, addresses, of_messages, of_sessions, of_address, sights, others}
use Rattle.sb_routes.proofs.Seeking.{sought, route_sought}
use Rattle.sb_routes.proofs.worked.worked_routes.Goals as goal

pub returns-clause-send : goal.returns-clause-send
unfolding matchit_on_literals undollared table with_route addresses of_messages of_sessions of_address sights others is_utf8 chars lib.Utf8.encode
returns-clause-send c = refl

pub returns-clause-head : goal.returns-clause-head
unfolding matchit_on_literals undollared table with_route addresses of_messages of_sessions of_address sights others is_utf8 chars lib.Utf8.encode
returns-clause-head c = refl

pub returns-clause-script : goal.returns-clause-script
unfolding matchit_on_literals undollared table with_route addresses of_messages of_sessions of_address sights others is_utf8 chars lib.Utf8.encode
returns-clause-script c = refl

pub returns-clause-none : goal.returns-clause-none
unfolding matchit_on_literals undollared table with_route addresses of_messages of_sessions of_address sights others is_utf8 chars lib.Utf8.encode
returns-clause-none c = refl

pub returns-clause-path : goal.returns-clause-path
returns-clause-path c = refl

pub returns-clause-query : goal.returns-clause-query
returns-clause-query c = refl

pub returns-clause-name : goal.returns-clause-name
unfolding segment
returns-clause-name c = refl

pub returns-clause-plain_script : goal.returns-clause-plain_script
unfolding matchit_on_literals undollared table with_route addresses of_messages of_sessions of_address sights others is_utf8 chars lib.Utf8.encode
returns-clause-plain_script c = refl

pub returns-clause-deferred : goal.returns-clause-deferred
unfolding matchit_on_literals undollared table with_route addresses of_messages of_sessions of_address sights others is_utf8 chars lib.Utf8.encode
returns-clause-deferred c = refl

pub returns-clause-locked : goal.returns-clause-locked
unfolding matchit_on_literals undollared table with_route addresses of_messages of_sessions of_address sights others is_utf8 chars lib.Utf8.encode
returns-clause-locked c = refl

pub returns-clause-scheduled : goal.returns-clause-scheduled
unfolding matchit_on_literals undollared table with_route addresses of_messages of_sessions of_address sights others is_utf8 chars lib.Utf8.encode
returns-clause-scheduled c = refl

pub returns-clause-no_number : goal.returns-clause-no_number
unfolding matchit_on_literals undollared table with_route addresses of_messages of_sessions of_address sights others is_utf8 chars lib.Utf8.encode
returns-clause-no_number c = refl

pub returns-clause-next : goal.returns-clause-next
unfolding matchit_on_literals undollared table with_route addresses of_messages of_sessions of_address sights others is_utf8 chars lib.Utf8.encode
returns-clause-next c = refl

pub returns-clause-named_head : goal.returns-clause-named_head
unfolding matchit_on_literals undollared table with_route addresses of_messages of_sessions of_address sights others is_utf8 chars lib.Utf8.encode
returns-clause-named_head c = refl

pub returns-clause-held_head : goal.returns-clause-held_head
unfolding scan param_step sought undollared table with_route addresses of_messages of_sessions of_address sights others is_utf8 chars lib.Utf8.encode
returns-clause-held_head c = route_sought (codes "/q/sessions/head/x") ∙ refl

pub returns-clause-state : goal.returns-clause-state
unfolding scan param_step sought undollared table with_route addresses of_messages of_sessions of_address sights others is_utf8 chars lib.Utf8.encode
returns-clause-state c = route_sought (codes "/q/sessions/a/x/state") ∙ refl

pub returns-clause-session_head : goal.returns-clause-session_head
unfolding scan param_step sought undollared table with_route addresses of_messages of_sessions of_address sights others is_utf8 chars lib.Utf8.encode
returns-clause-session_head c = route_sought (codes "/t/subscriptions/q/sessions/a/x/messages/head") ∙ refl

pub returns-clause-session_deferred : goal.returns-clause-session_deferred
unfolding scan param_step sought undollared table with_route addresses of_messages of_sessions of_address sights others is_utf8 chars lib.Utf8.encode
returns-clause-session_deferred c = route_sought (codes "/q/$deadletterqueue/sessions/a/x/messages/7") ∙ refl

pub returns-clause-session_locked : goal.returns-clause-session_locked
unfolding scan param_step sought undollared table with_route addresses of_messages of_sessions of_address sights others is_utf8 chars lib.Utf8.encode
returns-clause-session_locked c = route_sought (codes "/q/sessions/a/x/messages/7/y") ∙ refl

pub returns-clause-together : goal.returns-clause-together
unfolding matchit_on_literals undollared table with_route addresses of_messages of_sessions of_address sights others is_utf8 chars lib.Utf8.encode
returns-clause-together c = refl

pub returns-clause-health : goal.returns-clause-health
unfolding matchit_on_literals undollared table with_route addresses of_messages of_sessions of_address sights others is_utf8 chars lib.Utf8.encode
returns-clause-health c = refl

pub returns-clause-status : goal.returns-clause-status
unfolding matchit_on_literals undollared table with_route addresses of_messages of_sessions of_address sights others is_utf8 chars lib.Utf8.encode
returns-clause-status c = refl

pub returns-clause-metrics : goal.returns-clause-metrics
unfolding matchit_on_literals undollared table with_route addresses of_messages of_sessions of_address sights others is_utf8 chars lib.Utf8.encode
returns-clause-metrics c = refl

pub returns-clause-peek : goal.returns-clause-peek
unfolding matchit_on_literals undollared table with_route addresses of_messages of_sessions of_address sights others is_utf8 chars lib.Utf8.encode
returns-clause-peek c = refl

pub returns-clause-page : goal.returns-clause-page
unfolding matchit_on_literals undollared table with_route addresses of_messages of_sessions of_address sights others is_utf8 chars lib.Utf8.encode
returns-clause-page c = refl
