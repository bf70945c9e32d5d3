mod Letters
mod MadeRows
