-- Who may call: whom a server answers, and what a request shows of who makes it.
use Rattle.std.specs.Prelude.{◌==◌, ℕ, Bool, true, false, not, ◌&&◌, ◌||◌, List, [], ◌∷◌, length, drop, codes, bytes_eq, is_some, Option, Some, None, if◌then◌else◌}
use Rattle.std.specs.List.{list_all, list_any}
use Rattle.std.specs.Char.{is_ascii_digit}
use Rattle.sb_http.specs.Fields.{Field, same_word}
use Rattle.sb_rest.specs.declared.access.Access.{Access}
use Rattle.sb_rest.specs.Reserved.{begins}

-- ---- web pages

-- made by a page of this origin, or by no page (W3C, Fetch Metadata Request Headers, 2.3)
abbrev pub is_own_site : List ℕ → Bool
is_own_site value = bytes_eq value (codes "none") || bytes_eq value (codes "same-origin")

-- an Origin, which no client but a browser sends (WHATWG, Fetch, 3.2), or another site
abbrev pub is_of_a_page : Field → Bool
is_of_a_page f = same_word (codes "origin") f.0 || (same_word (codes "sec-fetch-site") f.0 && not (is_own_site f.1))

-- ---- hosts

-- nothing, or a port behind a colon (RFC 3986, 3.2.3)
abbrev pub is_port : List ℕ → Bool
is_port [] = true
is_port (b ∷ digits) = (b == 58) && list_all is_ascii_digit digits

-- the host has this name, in any case, whatever its port
abbrev pub is_named : List ℕ → List ℕ → Bool
is_named host name = begins name host && is_port (drop (length name) host)

-- the machine itself
abbrev pub is_local : List ℕ → Bool
is_local host = is_named host (codes "localhost") || is_named host (codes "127.0.0.1") || is_named host (codes "[::1]")

-- one of these names, or the machine itself
abbrev pub is_known : List (List ℕ) → List ℕ → Bool
is_known hosts host = is_local host || list_any (is_named host) hosts

-- a Host that isn't known, where hosts are named: a name that a page's owner gave this machine's address
abbrev pub is_other_host : List (List ℕ) → Field → Bool
is_other_host hosts f = not (length hosts == 0) && same_word (codes "host") f.0 && not (is_known hosts f.1)

-- a field that a page leaves, or a Host of another name
abbrev pub is_foreign_field : List (List ℕ) → Field → Bool
is_foreign_field hosts f = is_of_a_page f || is_other_host hosts f

-- a page of another origin made the request, or one that can't be told from it
abbrev pub is_foreign : Access → List Field → Bool
is_foreign access fields = list_any (is_foreign_field access.hosts) fields

-- ---- the key

-- a field Authorization (RFC 9110, 11.6.2)
abbrev pub is_authorization : Field → Bool
is_authorization f = same_word (codes "authorization") f.0

-- the first of these bytes is that one
abbrev pub is_first : List ℕ → ℕ → Bool
is_first [] byte = false
is_first (b ∷ bytes) byte = byte == b

-- the scheme in any case, a space, and this key (RFC 9110, 11.4; RFC 6750, 2.1)
abbrev pub shows : List ℕ → List ℕ → Bool
shows key value = begins (codes "bearer ") value && bytes_eq key (drop 7 value)

-- what was found, if something was
abbrev pub is_found : Option Bool → Bool
is_found None = false
is_found (Some shown) = shown

-- Just one Authorization, and it shows the key. It may have been found: whether it does is known then.
abbrev pub shows_once : List ℕ → Option Bool → List Field → Bool
shows_once key found [] = is_found found
shows_once key found (f ∷ fields) =
    if is_authorization f then (if is_some found then false else shows_once key (Some (shows key f.1)) fields) else shows_once key found fields

-- the key that is asked for is shown
abbrev pub has_that : Option (List ℕ) → List Field → Bool
has_that None fields = true
has_that (Some key) fields = shows_once key None fields

-- the request shows the key, or none is asked for
abbrev pub has_key : Access → List Field → Bool
has_key access fields = has_that access.key fields
