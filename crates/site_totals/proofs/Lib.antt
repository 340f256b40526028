mod Bytes
mod Fills
mod SiteColumns
mod Reporting
