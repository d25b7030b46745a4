-- Names of headers that are no user properties: each says something to a client, a proxy or this server.
use Rattle.std.specs.Prelude.{ℕ, Bool, ◌||◌, List, length, take, codes}
use Rattle.sb_http.specs.Fields.{same_word}

-- the name begins with this, in any case
abbrev pub begins : List ℕ → List ℕ → Bool
begins front name = same_word front (take (length front) name)

-- ---- in a request and in a response

-- how the message goes (RFC 9110, sections 6 to 8; RFC 9112, 6 and 9)
abbrev pub is_framing : List ℕ → Bool
is_framing name =
    same_word (codes "host") name
    || same_word (codes "content-length") name
    || same_word (codes "content-type") name
    || same_word (codes "content-encoding") name
    || same_word (codes "transfer-encoding") name
    || same_word (codes "connection") name
    || same_word (codes "keep-alive") name
    || same_word (codes "te") name
    || same_word (codes "trailer") name
    || same_word (codes "http2-settings") name

-- what is asked for (RFC 9110, sections 10 and 12)
abbrev pub is_asking : List ℕ → Bool
is_asking name =
    same_word (codes "upgrade") name
    || same_word (codes "expect") name
    || same_word (codes "max-forwards") name
    || same_word (codes "date") name
    || same_word (codes "accept") name
    || same_word (codes "accept-charset") name
    || same_word (codes "accept-encoding") name
    || same_word (codes "accept-language") name
    || same_word (codes "cache-control") name
    || same_word (codes "pragma") name

-- by whom, and from where
abbrev pub is_of_client : List ℕ → Bool
is_of_client name =
    same_word (codes "user-agent") name
    || same_word (codes "origin") name
    || same_word (codes "referer") name
    || same_word (codes "cookie") name
    || same_word (codes "dnt") name
    || begins (codes "sec-") name

-- what a proxy on the way adds
abbrev pub is_of_proxy : List ℕ → Bool
is_of_proxy name =
    same_word (codes "via") name
    || same_word (codes "forwarded") name
    || same_word (codes "x-real-ip") name
    || begins (codes "x-forwarded-") name
    || begins (codes "x-accel-") name
    || begins (codes "proxy-") name

-- who may, by the standard and as the public service has it
abbrev pub is_of_access : List ℕ → Bool
is_of_access name =
    same_word (codes "authorization") name
    || same_word (codes "servicebusauthorization") name
    || same_word (codes "servicebussupplementaryauthorization") name
    || same_word (codes "servicebusdlqsupplementaryauthorization") name

-- what these paths give a meaning
abbrev pub is_of_paths : List ℕ → Bool
is_of_paths name =
    same_word (codes "brokerproperties") name
    || same_word (codes "location") name
    || begins (codes "repeat-") name

-- a field of a request with this name is no user property
unfoldable pub is_reserved : List ℕ → Bool
is_reserved name = is_framing name || is_asking name || is_of_client name || is_of_proxy name || is_of_access name || is_of_paths name

-- ---- in a response alone

-- what rules a client or a proxy that reads it
abbrev pub rules_readers : List ℕ → Bool
rules_readers name =
    same_word (codes "set-cookie") name
    || same_word (codes "x-sendfile") name
    || same_word (codes "refresh") name
    || same_word (codes "clear-site-data") name
    || same_word (codes "alt-svc") name
    || same_word (codes "strict-transport-security") name
    || same_word (codes "content-security-policy") name
    || same_word (codes "www-authenticate") name
    || begins (codes "access-control-") name

-- a user property of this name is no field of a response
unfoldable pub is_hidden : List ℕ → Bool
is_hidden name = is_reserved name || rules_readers name
