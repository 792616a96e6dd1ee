-- The nine paths as the rows of a router, each inserted once, in the order of the table.
use Rattle.std.specs.Prelude.{ℕ, List, [], Result, Ok, Err, codes}
use Rattle.matchit.specs.Rows.{RowsOf}
use Rattle.matchit.specs.Router.{RouteOf, route_from}
use Rattle.matchit.specs.Order.{placed}
use Rattle.matchit.specs.Route.{parse_route, Scan}
use Rattle.matchit.specs.declared.error.InsertError.{InsertError}
use Rattle.routes.specs.declared.page.Page.{Page}
use Rattle.routes.specs.declared.page.Page.TheVariants as page

-- the rows with one more route, where its text is one
abbrev pub with_read : Result Scan InsertError → Page → RowsOf (RouteOf Page) → RowsOf (RouteOf Page)
with_read (Ok scan) value rows = let route = route_from scan value in placed (route.pattern, route) rows
with_read (Err e) value rows = rows

abbrev pub with_path : List ℕ → Page → RowsOf (RouteOf Page) → RowsOf (RouteOf Page)
with_path text value rows = with_read (parse_route text) value rows

unfoldable pub table : RowsOf (RouteOf Page)
table =
    with_path (codes "/projects/{name}/sheet/{w}/{h}") page.Sheet
    (with_path (codes "/projects/{name}/edits") page.Edits
    (with_path (codes "/projects/{name}/vertex") page.Vertex
    (with_path (codes "/projects/{name}/fold") page.Fold
    (with_path (codes "/projects/{name}/cp") page.Cp
    (with_path (codes "/projects/{name}/pattern") page.Pattern
    (with_path (codes "/projects/{name}/faults") page.Faults
    (with_path (codes "/projects/{name}") page.Project
    (with_path (codes "/projects") page.Projects []))))))))
