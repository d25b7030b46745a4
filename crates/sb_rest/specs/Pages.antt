-- The page for a browser.
use Rattle.std.specs.Prelude.{List, [], ◌∷◌, codes, false}
use Rattle.sb_http.specs.declared.response.Status.TheVariants as status
use Rattle.sb_http.specs.Fields.{Field}
use Rattle.sb_http.specs.Responses.{ResponseMessage}
use Rattle.sb_rest.specs.declared.page.TheConstants.{PAGE}

-- it runs what stands in itself, and asks this server alone (W3C, Content Security Policy); nobody keeps it (RFC 9111, 5.2.2.5)
abbrev pub page_fields : List Field
page_fields =
    (codes "Content-Type", codes "text/html; charset=utf-8")
    ∷ (codes "Content-Security-Policy", codes "default-src 'none'; script-src 'unsafe-inline'; style-src 'unsafe-inline'; connect-src 'self'")
    ∷ (codes "Cache-Control", codes "no-store")
    ∷ []

-- the response with it
abbrev pub page_response : ResponseMessage
page_response = record { status = status.Ok; fields = page_fields; body = PAGE.now; ends = false }
