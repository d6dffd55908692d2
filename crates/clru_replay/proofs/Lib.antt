mod ReportLemmas
mod Rows
