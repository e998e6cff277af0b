-- What the tables of a notebook hold. Assumes nothing.
use Rattle.notebook.specs.declared.tables.Tables.{Tables}
use Rattle.notebook.specs.Books.{Written}

abbrev pub written : Tables → Written
written t = record { log = t.log; stamps = t.stamps.now; pairs = t.pairs }
