-- The tables are made, and the rows are found in them (`searched`); what they leave is the front of the file (`filled_for`).
use mathlib.Core.Path.{refl}
use Rattle.fields.specs.Fields.{sizes_in}
use Rattle.sought.specs.Sought.{Laid}
use Rattle.sought.proofs.Given.{filled_for, searched}
use Rattle.sought.proofs.fill.Goals as goal
use Rattle.sought.proofs.fill.Goals.{Start}

-- what is handed on of the file
laid : (c : Start) → Laid c.args.file.now c.args.room.now.chart.words c.args.room.now.header.k
laid c = record { sizes = sizes_in c.args.room.now.header; listing = c.requires.listing; criteria = refl }

pub rows-requires : goal.rows-requires
rows-requires c =
    let read = searched (laid (goal.at.rows-requires c).Start) c.row_count-m.ensures.0 c.columns_of-columns.ensures in
    ((rw (c.kinds_of.ensures, c.leads_of-leads.ensures, c.costs_of-prices.ensures) read, c.limit.ensures.0), c.requires.holding)

pub returns : goal.returns
returns c =
    filled_for (laid (goal.at.returns c).Start) (rw (c.kinds_of.ensures, c.leads_of-leads.ensures, c.costs_of-prices.ensures) at c.rows.ensures)
