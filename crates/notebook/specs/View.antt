-- What a notebook of the program means. Assumes nothing.
use Rattle.notebook.specs.declared.notebook.Notebook.{Notebook}
use Rattle.notebook.specs.Books.{Book}
use Rattle.notebook.specs.Tables.{written}

abbrev pub book : Notebook → Book
book n = record { counts = n.counts; rule = n.rule; tables = written n.tables }
